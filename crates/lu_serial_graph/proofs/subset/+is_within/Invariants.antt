use Rattle.std.specs.Prelude.{slice_index_or, []}
use Rattle.lu_trie.specs.Members.{weight}
use Rattle.lu_trie.specs.Branches.{branches_of}
use Rattle.lu_serial_graph.specs.Subsets.{AreWithin}
use Rattle.lu_serial_graph.proofs.Within.{FirstWithin}
use Rattle.lu_serial_graph.proofs.subset.+is_within.Given as goal

abbrev pub decreases-is_within : goal.decreases-is_within
decreases-is_within g l = weight (slice_index_or l.one.now.0 l.here [])

abbrev pub invariant-loop-i : goal.invariant-loop-i
invariant-loop-i g l = record {
  known : AreWithin l.one.0 l.other.0 l.known.keys;
  first : FirstWithin (branches_of (slice_index_or l.one.0 l.here [])) (slice_index_or l.other.0 l.there []) l.i;
}
