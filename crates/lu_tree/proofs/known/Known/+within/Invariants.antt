use Rattle.std.proofs.Common.{◌≡◌}
use Rattle.std.specs.Prelude.{All}
use Rattle.std.specs.List.{Contains}
use Rattle.std.specs.Vec.Iter.{into_iter_items}
use Rattle.lu_tree.specs.Known.{KidsTellNoMore, counts_of, kids_of}
use Rattle.lu_tree.proofs.known.Known.+within.Given as goal

abbrev pub decreases-within : goal.decreases-within
decreases-within l = l.moves

abbrev pub invariant-loop-thread : goal.invariant-loop-thread
invariant-loop-thread l = record {
  counts : counts_of l.known ≡ counts_of l.fn.self;
  rest : All (Contains (kids_of l.fn.self)) (into_iter_items l.thread-iterator);
  kids : KidsTellNoMore l.fn.self l.known;
}
