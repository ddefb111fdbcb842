use Rattle.std.proofs.Common.{◌≡◌, ℕ, ◌<◌, Some, length, slice_get}
use Rattle.std.specs.Prelude.{IfSome}
use Rattle.std.specs.List.{slice_index}
use Rattle.lu_graph.specs.Numbered.{with_number}
use Rattle.lu_graph.proofs.row.threads_with.Given as goal

abbrev pub invariant-loop-index : goal.invariant-loop-index
invariant-loop-index l =
    (length l.threads ≡ 8)
    × ((t : ℕ) → t < l.index → IfSome (with_number l.table.keys (slice_index l.numbers t)) (λ thread. slice_get l.threads t ≡ Some thread))
