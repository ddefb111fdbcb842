use Rattle.std.proofs.Common.{◌≡◌, ◌≤◌, All, vec_len}
use Rattle.std.specs.Prelude.{vec_capacity}
use Rattle.lu_graph.proofs.expanders.run_in.Given as goal

abbrev pub invariant-loop-number : goal.invariant-loop-number
invariant-loop-number g l =
    (l.number ≡ vec_len l.children)
    × (l.fn.helpers ≤ vec_capacity l.children)
    × All (λ h. h.promise ≡ l.frontier) l.children.items
