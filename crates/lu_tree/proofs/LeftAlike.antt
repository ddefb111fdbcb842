-- Two moves lead to states that are alike where they leave two threads alike, and the same at the location.
use Rattle.std.proofs.Common.{◌≡◌, ℕ, List, Option, None, Some, slice_get, slice_set, get_or, slice_index, sym, ◌∙◌, ap, subst, inl, inr}
use Rattle.std.proofs.lemmas.Bool.{cases_eq}
use Rattle.lu_machine.specs.declared.thread.Thread.{Thread}
use Rattle.lu_machine.specs.States.{State}
use Rattle.lu_horizon.specs.Dead.{DeadTable}
use Rattle.lu_horizon.proofs.OwnLaws.{get_set_other}
use Rattle.lu_tree.specs.declared.access.Held.TheVariants.{Value, Owner}
use Rattle.lu_tree.specs.declared.access.Location.{Location}
use Rattle.lu_tree.specs.declared.access.Location.TheVariants as location
use Rattle.lu_tree.specs.declared.commuting.TwoUndos.{TwoUndos}
use Rattle.lu_tree.specs.Accesses.{conflict, held_at, left_at, next_access}
use Rattle.lu_tree.specs.Alike.{AreAlike, AreLeftAlike, AreStandingAlike}
use Rattle.lu_tree.specs.Known.{MadeBoth}
use Rattle.lu_tree.proofs.Accessing.{alike_back, alike_trans, conflict_at, ends_at, shared_same}
use Rattle.lu_tree.proofs.Alike.{standing_itself}

-- another thread stands as it stood
other_two : (threads : List Thread) (t u v : ℕ) (x y : Thread) → (t ≡ v → ⊥) → (u ≡ v → ⊥) → slice_get (slice_set (slice_set threads t x) u y) v ≡ slice_get threads v
other_two threads t u v x y one two = get_set_other (slice_set threads t x) u v y (λ e. two (sym e)) ∙ get_set_other threads t v x (λ e. one (sym e))

-- both orders lead to states that are alike, where they leave the two threads alike, and the same at the location
pub left_alike : (table : DeadTable) (t u : ℕ) (s x y : State) (there here : TwoUndos) (l : Location) → MadeBoth t u s x there → MadeBoth u t s y here → (t ≡ u → ⊥) → conflict (next_access s t) (next_access s u) ≡ Some l → AreLeftAlike table (left_at x t u l) (left_at y t u l) → AreAlike table x y
left_alike table t u s x y there here l one two differ at left =
    let both = conflict_at (next_access s t) (next_access s u) l at in
    let a = ends_at t u s x there.first.event there.second.event l both.0 both.1 one.moves differ both.2 both.3 both.4 both.5 in
    let b = ends_at u t s y here.first.event here.second.event l both.1 both.0 two.moves (λ z. differ (sym z)) both.3 both.2 both.5 both.4 in
    let shared = shared_same l y x (alike_trans l y s x (alike_back l s y b.alike) a.alike) left.2 in
    record {
      component = b.component ∙ sym a.component;
      matrix_is = b.matrix_is ∙ sym a.matrix_is;
      cells = shared.0;
      locks = shared.1;
      threads = λ v. elim (cases_eq t v) [
        | inl first ↦ subst (λ z. AreStandingAlike table (slice_get x.threads z) (slice_get y.threads z)) first left.0
        | inr not_first ↦ elim (cases_eq u v) [
          | inl second ↦ subst (λ z. AreStandingAlike table (slice_get x.threads z) (slice_get y.threads z)) second left.1
          | inr not_second ↦
              (let here : slice_get x.threads v ≡ slice_get s.threads v = ap (λ z. slice_get z v) a.threads ∙ other_two s.threads t u v a.first a.second not_first not_second in
              let back : slice_get y.threads v ≡ slice_get s.threads v = ap (λ z. slice_get z v) b.threads ∙ other_two s.threads u t v b.first b.second not_second not_first in
              rw (here, back) (standing_itself table (slice_get s.threads v)))
        ]
      ];
    }

held_alike : (x y : State) (l : Location) → y.cells ≡ x.cells → y.locks ≡ x.locks → held_at y l ≡ held_at x l
held_alike x y (location.Cell p) cells locks = ap (λ (z : List ℕ). Value (slice_index z p)) cells
held_alike x y (location.Lock l) cells locks = ap (λ (z : List (Option ℕ)). Owner (get_or z l None)) locks

-- and only there
pub alike_left : (table : DeadTable) (t u : ℕ) (x y : State) (l : Location) → AreAlike table x y → AreLeftAlike table (left_at x t u l) (left_at y t u l)
alike_left table t u x y l alike = (alike.threads t, alike.threads u, held_alike x y l alike.cells alike.locks)
