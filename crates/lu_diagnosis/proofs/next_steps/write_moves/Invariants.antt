use Rattle.std.proofs.Common.{◌≡◌, ◌++◌}
use Rattle.std.specs.Prelude.{string_bytes}
use Rattle.lu_diagnosis.specs.NextSteps.{move_lines}
use Rattle.lu_diagnosis.proofs.next_steps.write_moves.Given as goal

abbrev pub invariant-loop-pick : goal.invariant-loop-pick
invariant-loop-pick l = string_bytes l.text ≡ string_bytes l.initial.text ++ move_lines l.how l.machine l.t l.pick
