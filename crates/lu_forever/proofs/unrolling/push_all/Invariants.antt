use Rattle.std.proofs.Common.{◌≡◌, ◌++◌, take}
use Rattle.lu_forever.proofs.unrolling.push_all.Given as goal

abbrev pub invariant-loop-call : goal.invariant-loop-call
invariant-loop-call l = l.calls.items ≡ l.fn.calls.items ++ take l.call-index l.line
