use Rattle.std.proofs.Common.{◌≡◌, ◌≤◌, length, take}
use Rattle.lu_witness.specs.Witnesses.{entries}
use Rattle.lu_graph.proofs.members.count.Given as goal

abbrev pub invariant-loop-op : goal.invariant-loop-op
invariant-loop-op l = record {
  few : l.count ≤ l.op-index;
  counted : l.count ≡ length (entries l.thread (take l.op-index l.history));
}
