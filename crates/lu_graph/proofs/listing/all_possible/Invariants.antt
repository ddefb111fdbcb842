use Rattle.std.proofs.Common.{◌≡◌, ℕ, Bool, true, length, Some, slice_get}
use Rattle.lu_graph.proofs.listing.all_possible.Given as goal

abbrev pub invariant-loop-member : goal.invariant-loop-member
invariant-loop-member l = record {
  many : length l.alive.items ≡ l._member-index;
  all : (i : ℕ) (b : Bool) → slice_get l.alive.items i ≡ Some b → b ≡ true;
}
