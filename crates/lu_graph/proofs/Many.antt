-- Where more are kept, no two alike, than a list has that has each of them, two of them would be one.
use Rattle.std.proofs.Common.{arith, ◌≡◌, ℕ, zero, suc, ◌<◌, ◌≤◌, Bool, true, false, List, [], ◌∷◌, length, Option, Some, None, slice_get, get_or, refl, sym, ◌∙◌, ap, subst, inl, inr}
use Rattle.std.specs.List.{IsDistinct}
use Rattle.std.proofs.lemmas.Bool.{cases_lt}
use Rattle.std.proofs.lemmas.Map.Keys.{apart_from_distinct}
use Rattle.std.proofs.lemmas.Option.{get_or_from_slice_get, same_Some, slice_get_within}
use Rattle.indexmap.proofs.IndexTableLemmas.Probe.{Into, OneToOne, pigeonhole}
use Rattle.lu_graph.specs.Nodes.{IsAmong}

pub some_at : {A : Type 0} (xs : List A) (i : ℕ) → i < length xs → (x : A) × (slice_get xs i ≡ Some x)
some_at [] i lt = absurd (omega arith)
some_at (x ∷ xs) zero lt = (x, refl)
some_at (x ∷ xs) (suc i) lt = some_at xs i (omega arith)

-- for each there is one of all, and no two have one
module _ {K N : Type 0} (IsLike : K → N → Type 0) (list : List K) (apart : (i j : ℕ) (x y : K) (n : N) → i < j → slice_get list i ≡ Some x → slice_get list j ≡ Some y → IsLike x n → IsLike y n → ⊥) (all : List N) (there : (i : ℕ) (kept : K) → slice_get list i ≡ Some kept → (n : N) × IsAmong all n × IsLike kept n) where
  abbrev slot : (i : ℕ) (o : Option K) → slice_get list i ≡ o → ℕ
  slot i None is = 0
  slot i (Some kept) is = (there i kept is).1.0

  slot_is : (i : ℕ) (kept : K) (o : Option K) (is : slice_get list i ≡ o) → o ≡ Some kept → (n : N) × (slice_get all (slot i o is) ≡ Some n) × IsLike kept n
  slot_is i kept None is e = absurd (cc)
  slot_is i kept (Some one) is e =
      ((there i one is).0, (there i one is).1.1, subst (λ x. IsLike x (there i one is).0) (same_Some one kept e) (there i one is).2)

  abbrev place : ℕ → ℕ
  place i = slot i (slice_get list i) refl

  place_is : (i : ℕ) (kept : K) → slice_get list i ≡ Some kept → (n : N) × (slice_get all (place i) ≡ Some n) × IsLike kept n
  place_is i kept is = slot_is i kept (slice_get list i) refl is

  into : Into place (length list) (length all)
  into i lt =
      let one = some_at list i lt in
      let is = place_is i one.0 one.1 in
      slice_get_within all (place i) is.0 is.1

  never_equal : (i j : ℕ) → i < j → j < length list → place i ≡ place j → ⊥
  never_equal i j lt within same =
      let x = some_at list i (omega arith) in
      let y = some_at list j within in
      let first = place_is i x.0 x.1 in
      let second = place_is j y.0 y.1 in
      let one : second.0 ≡ first.0 = same_Some second.0 first.0 (sym second.1 ∙ (ap (slice_get all) (sym same) ∙ first.1)) in
      apart i j x.0 y.0 first.0 lt x.1 y.1 first.2 (subst (IsLike y.0) one second.2)

  one_to_one : OneToOne place (length list)
  one_to_one i j p q same =
      elim (cases_lt i j) as (λ _. i ≡ j) [
        | inl lt ↦ absurd (never_equal i j lt q same)
        | inr ge ↦ elim (cases_lt j i) as (λ _. i ≡ j) [
          | inl lt ↦ absurd (never_equal j i lt p (sym same))
          | inr le ↦ omega arith
        ]
      ]

  pub no_more_apart : length list ≤ length all
  no_more_apart = pigeonhole (length list) (length all) place into one_to_one

-- where two that have one are equal, and no two of the list are
pub equal_apart : {K : Type 0} (eq : K → K → Bool) (list : List K) → IsDistinct eq list → (i j : ℕ) (x y : K) → i < j → slice_get list i ≡ Some x → slice_get list j ≡ Some y → eq x y ≡ true → ⊥
equal_apart eq list distinct i j x y lt at there equal =
    let apart = apart_from_distinct eq list i j x distinct lt (slice_get_within list j y there) in
    let here : get_or list i x ≡ x = get_or_from_slice_get list i x x at in
    let other : get_or list j x ≡ y = get_or_from_slice_get list j y x there in
    let differ : eq x y ≡ false = sym (ap (λ z. eq z (get_or list j x)) here ∙ ap (λ z. eq x z) other) ∙ apart in
    absurd (cc)

pub no_more : {K N : Type 0} (eq : K → K → Bool) (IsLike : K → N → Type 0) → ((a b : K) (n : N) → IsLike a n → IsLike b n → eq a b ≡ true) → (list : List K) → IsDistinct eq list → (all : List N) → ((i : ℕ) (kept : K) → slice_get list i ≡ Some kept → (n : N) × IsAmong all n × IsLike kept n) → length list ≤ length all
no_more eq IsLike alike list distinct all there =
    no_more_apart IsLike list (λ i j x y n lt at other p q. equal_apart eq list distinct i j x y lt at other (alike x y n p q)) all there
