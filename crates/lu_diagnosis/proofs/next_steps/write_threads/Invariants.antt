use Rattle.std.proofs.Common.{◌≡◌, ◌++◌}
use Rattle.std.specs.Prelude.{string_bytes}
use Rattle.lu_diagnosis.specs.NextSteps.{first_next}
use Rattle.lu_diagnosis.proofs.next_steps.write_threads.Given as goal

abbrev pub invariant-loop-t : goal.invariant-loop-t
invariant-loop-t l = string_bytes l.text ≡ string_bytes l.initial.text ++ first_next l.how l.machine l.t
