use Rattle.std.proofs.Common.{◌≡◌, take}
use Rattle.lu_test.proofs.edits.copies_of.Given as goal

abbrev pub invariant-loop-calls : goal.invariant-loop-calls
invariant-loop-calls l = l.copies.items ≡ take l.calls-index l.threads
