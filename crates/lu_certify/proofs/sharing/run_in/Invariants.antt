use Rattle.std.proofs.Common.{◌≡◌, ◌+◌, ◌≤◌, All, vec_len}
use Rattle.std.specs.Prelude.{vec_capacity}
use Rattle.lu_certify.proofs.sharing.run_in.Given as goal

abbrev pub invariant-loop : goal.invariant-loop
invariant-loop g l =
    (l.counter ≡ vec_len l.children + 1)
    × (l.fn.workers ≤ vec_capacity l.children)
    × All (λ h. h.promise ≡ l.test) l.children.items
