use Rattle.std.proofs.Common.{◌≡◌, ℕ, length}
use Rattle.lu_always.specs.Marking.{IsMarked}
use Rattle.lu_always.proofs.sinks.Marking.new.Given as goal

abbrev pub invariant-loop-vertex : goal.invariant-loop-vertex
invariant-loop-vertex l = record {
  many : length l.marks.items ≡ l._vertex;
  none : (i : ℕ) → IsMarked l.marks.items i → ⊥;
}
