use Rattle.std.proofs.Common.{◌≡◌, ◌+◌, ◌-◌, ◌^◌, min, length, take}
use Rattle.lu_trie.specs.Branches.{joined}
use Rattle.lu_trie.proofs.Sorted.{EachSorted}
use Rattle.lu_trie.proofs.trie.Trie.+len.Given as goal

abbrev pub invariant-loop-below : goal.invariant-loop-below
invariant-loop-below g l = record {
  counted : l.count ≡ min (l.initial.count + length (joined (take l.below-index l.below-items))) (2 ^ 64 - 1);
  sorted : EachSorted (take l.below-index l.below-items);
}
