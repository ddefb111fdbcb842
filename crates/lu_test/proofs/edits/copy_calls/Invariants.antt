use Rattle.std.proofs.Common.{◌≡◌, take}
use Rattle.lu_test.proofs.edits.copy_calls.Given as goal

abbrev pub invariant-loop-call : goal.invariant-loop-call
invariant-loop-call l = l.copies.items ≡ take l.call-index l.calls
