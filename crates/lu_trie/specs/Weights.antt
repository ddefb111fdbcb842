-- Each branch of a node weighs less than the node.
use Rattle.std.specs.Prelude.{◌≡◌, ◌≢◌, ℕ, ◌+◌, ◌≤◌, max, Bool, List, [], ◌∷◌, ◌++◌, length}
use Rattle.std.proofs.Common.{arith, refl}
use Rattle.lu_history.specs.declared.serial.SerialOp.{SerialOp}
use Rattle.lu_trie.specs.Members.{weight, after, empty_if}
use Rattle.lu_trie.specs.Branches.{Branch, joined, members_from, NoneBare, AreBranches}
use denote.Param.Weighed.{most}

pub weight-append : (xs ys : List (List SerialOp)) → weight (xs ++ ys) ≡ weight xs + weight ys
weight-append [] ys = omega arith
weight-append (x ∷ xs) ys = omega (arith, weight-append xs ys)

weight-after : (op : SerialOp) (xs : List (List SerialOp))
    → weight (after op xs) ≡ weight xs + length xs
weight-after op [] = omega arith
weight-after op (x ∷ xs) = omega (arith, weight-after op xs)

pub after-full : (op : SerialOp) (xs : List (List SerialOp)) → xs ≢ []
    → weight xs + 1 ≤ weight (after op xs)
after-full op [] ne = absurd (ne refl)
after-full op (x ∷ xs) ne = omega (arith, weight-after op (x ∷ xs))

branches_lighter : (f : Branch → ℕ) → ((branch : Branch) → f branch ≤ weight branch.1 + 1)
    → (branches : List Branch) → NoneBare branches → most f branches ≤ weight (joined branches)
branches_lighter f le [] full = omega arith
branches_lighter f le (k ∷ ks) full =
    omega (
      arith,
      le k,
      weight-append (after k.0 k.1) (joined ks),
      after-full k.0 k.1 full.0,
      branches_lighter f le ks full.1,
    )

pub node_lighter : (f : Branch → ℕ) → ((branch : Branch) → f branch ≤ weight branch.1 + 1)
    → (ends : Bool) (branches : List Branch) → AreBranches branches
    → max (most f branches) 0 ≤ weight (members_from ends branches)
node_lighter f le ends branches are =
    omega (
      arith,
      weight-append (empty_if ends) (joined branches),
      branches_lighter f le branches
          are.full,
    )
