-- What is said to be dead is so.
use Rattle.std.proofs.Common.{◌≡◌, ℕ, zero, suc, ◌⊎◌, inl, inr, Bool, true, List, [], ◌∷◌, ◌++◌, Some, get_or, length, slice_get, refl, sym, ◌∙◌, ap, subst}
use Rattle.lu_component.specs.Component.{Component}
use Rattle.lu_component.specs.declared.instr.Instr.{Instr}
use Rattle.lu_machine.specs.States.{instr_at}
use Rattle.lu_horizon.specs.Dead.{AreDead, IsDeadTable, dead_at, dead_before}

-- an operation more, whose code is this
get_push : (table : List (List (List Bool))) (places : List (List Bool)) (op : ℕ) → (get_or (table ++ places ∷ []) op [] ≡ get_or table op []) ⊎ ((op ≡ length table) × (get_or (table ++ places ∷ []) op [] ≡ places))
get_push [] places zero = inr (refl, refl)
get_push [] places (suc op) = inl refl
get_push (x ∷ table) places zero = inl refl
get_push (x ∷ table) places (suc op) =
    elim (get_push table places op) [
      | inl old ↦ inl old
      | inr new ↦ inr (ap suc new.0, new.1)
    ]

pub dead_push : (c : Component) (table : List (List (List Bool))) (op : ℕ) (code : List Instr) (places : List (List Bool)) → op ≡ length table → ((place : ℕ) → instr_at c op place ≡ slice_get code place) → AreDead code places → IsDeadTable c table → IsDeadTable c (table ++ places ∷ [])
dead_push c table op code places many of dead old = λ o place instr r at is.
    elim (get_push table places o) [
      | inl same ↦
          (let was : dead_at (get_or table o []) place r ≡ true = subst (λ x. dead_at x place r ≡ true) same is in
          subst (λ x. dead_before (dead_at x) place instr r ≡ true) (sym same) (old o place instr r at was))
      | inr new ↦
          (let now : dead_at places place r ≡ true = subst (λ x. dead_at x place r ≡ true) new.1 is in
          let there : slice_get code place ≡ Some instr = sym (of place) ∙ subst (λ x. instr_at c x place ≡ Some instr) (new.0 ∙ sym many) at in
          subst (λ x. dead_before (dead_at x) place instr r ≡ true) (sym new.1) (dead place instr r there now))
    ]

pub dead_none : (c : Component) → IsDeadTable c []
dead_none c = λ op place instr r at is. absurd (cc)
