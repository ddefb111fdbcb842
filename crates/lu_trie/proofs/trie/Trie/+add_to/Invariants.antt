use Rattle.std.proofs.Common.{◌≡◌, ◌++◌, List, length, take}
use Rattle.lu_history.specs.declared.serial.SerialOp.{SerialOp}
use Rattle.lu_trie.specs.Members.{weight}
use Rattle.lu_trie.specs.Packed.{AllBelow, resolve}
use Rattle.lu_trie.proofs.trie.Trie.+add_to.Given as goal

abbrev pub decreases-add_to : goal.decreases-add_to
decreases-add_to g l = weight l.self.now

abbrev pub invariant-loop-label : goal.invariant-loop-label
invariant-loop-label g l = record {
  grown : (more : List (List (List SerialOp))) × (l.table ≡ l.initial.table ++ more);
  below : AllBelow (length l.table) l.links.items;
  done : resolve l.table l.links.items ≡ take l.label-index l.label-items;
}
