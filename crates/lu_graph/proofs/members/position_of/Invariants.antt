use Rattle.std.proofs.Common.{◌≡◌, ◌≤◌, length, take}
use Rattle.lu_witness.specs.Witnesses.{entries}
use Rattle.lu_graph.proofs.members.position_of.Given as goal

abbrev pub invariant-loop-position : goal.invariant-loop-position
invariant-loop-position l = record {
  few : l.seen ≤ l.position;
  before : l.seen ≤ l.number;
  counted : l.seen ≡ length (entries l.thread (take l.position l.history));
}
