use Rattle.std.proofs.Common.{ℕ, ◌<◌, ◌≡◌, Some, slice_get}
use Rattle.lu_test.specs.declared.matrix.Call.{Call}
use Rattle.lu_run.specs.Tables.{IsCallFor}
use Rattle.lu_run.proofs.checking.are_calls_of.Given as goal

abbrev pub invariant-loop-call : goal.invariant-loop-call
invariant-loop-call l = (n : ℕ) (call : Call) → n < l.call-index → slice_get l.calls n ≡ Some call → IsCallFor l.component call
