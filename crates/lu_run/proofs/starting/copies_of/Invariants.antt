use Rattle.std.proofs.Common.{◌≡◌, take}
use Rattle.lu_run.proofs.starting.copies_of.Given as goal

abbrev pub invariant-loop-call : goal.invariant-loop-call
invariant-loop-call l = l.copies.items ≡ take l.call-index l.calls
