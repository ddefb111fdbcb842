use Rattle.std.proofs.Common.{◌≡◌}
use Rattle.lu_tree.specs.Known.{AreFrom}
use Rattle.lu_tree.proofs.commuting.hints_after.Given as goal

abbrev pub invariant-loop-other : goal.invariant-loop-other
invariant-loop-other g l = record {
  machine : l.machine ≡ l.fn.machine;
  from : AreFrom l.fn.dead l.fn.machine l.fn.hints l.fn.known l.fn.thread l.found;
}
