-- Lists of configurations within others.
use Rattle.std.proofs.Common.{arith, ◌≡◌, ℕ, ◌+◌, ◌<◌, List, [], ◌∷◌, ◌++◌, Result, Ok, IfOk, length, take, inl, inr, refl, sym, ◌∙◌, ap, subst}
use Rattle.std.specs.declared.cmp.Ordering.TheVariants.{Equal}
use Rattle.std.specs.List.Sorted.{IsSearchInRange}
use Rattle.std.specs.List.{HoldsAt}
use Rattle.std.proofs.lemmas.List.{take_more}
use Rattle.lu_linearization.specs.declared.configuration.Configuration.{Configuration as Shown}
use Rattle.lu_linearization.specs.Configurations.{AreSame, Configuration}
use Rattle.lu_linearization.specs.Monitors.{Holds, configuration_of}
use Rattle.lu_linearization.specs.contracts.configuration.ConfigurationOrd.TheImpl as ord
use Rattle.lu_linearization.proofs.Compared.{found_one}
use Rattle.lu_linearization.proofs.Held.{holds_append, holds_at}
use Rattle.lu_linearization.proofs.Layers.{same_itself}
use Rattle.lu_always.specs.Nodes.{IsWithin}

-- what is the same as one that the list has is held too
held_same : (xs : List Shown) (b d : Configuration ℕ) → AreSame b d → Holds xs b → Holds xs d
held_same [] b d same held = absurd held
held_same (x ∷ xs) b d same held = elim held as (λ _. Holds (x ∷ xs) d) [
  | inl here ↦ inl (record { state = here.state ∙ same.state; effects = λ t. here.effects t ∙ same.effects t })
  | inr there ↦ inr (held_same xs b d same there)
]

pub within_none : (list : List Shown) → IsWithin [] list
within_none list d held = absurd held

pub within_next : (less list : List Shown) (i : ℕ) (one : Shown) → i < length less → HoldsAt (λ y. y ≡ one) less i → Holds list (configuration_of one) → IsWithin (take i less) list → IsWithin (take (i + 1) less) list
within_next less list i one lt at there before d held =
    let whole : take (i + 1) less ≡ take i less ++ one ∷ [] = take_more less i one lt ∙ ap (λ x. take i less ++ x ∷ []) (at one) in
    elim ((holds_append (take i less) (one ∷ []) d).0 (subst (λ ys. Holds ys d) whole held)) as (λ _. Holds list d) [
      | inl front ↦ before d front
      | inr (inl here) ↦ held_same list (configuration_of one) d here there
      | inr (inr never) ↦ absurd never
    ]

-- what a search finds is held
pub found_holds : (list : List Shown) (one : Shown) (r : Result ℕ ℕ) → IfOk r (HoldsAt (λ y. (ord.ghosts).cmp y one ≡ Equal) list) → IsSearchInRange r (length list) → (i : ℕ) → r ≡ Ok i → Holds list (configuration_of one)
found_holds list one r found range i is =
    holds_at list i one (configuration_of one) (subst (λ x. IsSearchInRange x (length list)) is range)
    (subst (λ x. IfOk x (HoldsAt (λ y. y ≡ one) list)) is (found_one list one r found)) (same_itself (configuration_of one))
