use Rattle.std.proofs.Common.{◌≡◌, ◌++◌}
use Rattle.std.specs.Prelude.{string_bytes}
use Rattle.lu_trace.specs.Setups.{lock_lines}
use Rattle.lu_trace.proofs.setup.write_locks.Given as goal

abbrev pub invariant-loop-lock : goal.invariant-loop-lock
invariant-loop-lock l = string_bytes l.text ≡ string_bytes l.initial.text ++ lock_lines l.machine l.lock
