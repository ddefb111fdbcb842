use Rattle.std.proofs.Common.{◌≡◌, length}
use Rattle.lu_graph.specs.Judging.{Stay}
use Rattle.lu_graph.proofs.alive.still_alive.Given as goal

abbrev pub invariant-loop-number : goal.invariant-loop-number
invariant-loop-number l = record {
  many : length l.now.items ≡ l.number;
  stay : Stay l.members l.at l.alive l.now.items;
}
