use Rattle.std.proofs.Common.{◌≡◌, ◌++◌, List}
use Rattle.std.specs.Prelude.{string_bytes}
use Rattle.std.specs.List.{flat_map}
use Rattle.lu_history.specs.declared.serial.SerialOp.{SerialOp}
use Rattle.lu_trie.specs.Members.{weight}
use Rattle.lu_spec.specs.SpecText.{history_line}
use Rattle.lu_spec.proofs.Ends.{IsListedTo}
use Rattle.lu_spec.proofs.writer.+write_below.Given as goal

abbrev pub decreases-write_below : goal.decreases-write_below
decreases-write_below g l = weight (g.T.SerialTree.below l.tree.now l.place)

abbrev pub invariant-loop-i : goal.invariant-loop-i
invariant-loop-i g l = record {
  path : l.path.items ≡ l.fn.path.items;
  text : (listed : List (List SerialOp)) × IsListedTo l.fn.path.items (g.T.SerialTree.below l.tree l.place) l.i listed × (string_bytes l.text ≡ string_bytes l.fn.text ++ flat_map history_line listed);
}
