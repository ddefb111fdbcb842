use Rattle.std.proofs.Common.{◌≡◌, ◌++◌}
use Rattle.std.specs.Prelude.{string_bytes}
use Rattle.lu_trace.specs.Lines.{waits}
use Rattle.lu_trace.proofs.waiting.write_waits.Given as goal

abbrev pub invariant-loop-t : goal.invariant-loop-t
invariant-loop-t l = string_bytes l.text ≡ string_bytes l.initial.text ++ waits l.how l.machine l.t
