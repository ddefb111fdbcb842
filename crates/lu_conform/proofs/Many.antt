-- Where more stages are kept than a list has that has all, two of them would be one.
use Rattle.std.proofs.Common.{arith, ◌≡◌, ℕ, ◌<◌, ◌≤◌, true, false, List, length, map, reverse, Option, Some, None, slice_get, get_or, refl, sym, ◌∙◌, ap, subst, inl, inr}
use Rattle.std.specs.List.{IsDistinct}
use Rattle.std.specs.Map.{keys_of}
use Rattle.std.proofs.lemmas.Bool.{cases_lt}
use Rattle.std.proofs.lemmas.List.{length-map}
use Rattle.std.proofs.lemmas.Map.Keys.{apart_from_distinct}
use Rattle.std.proofs.lemmas.Option.{get_or_from_slice_get, same_Some, slice_get_within}
use Rattle.indexmap.proofs.IndexTableLemmas.Probe.{Into, OneToOne, pigeonhole}
use Rattle.lu_machine.specs.States.{State}
use Rattle.lu_recorded.specs.declared.recorded.Recorded.{Recorded}
use Rattle.lu_conform.specs.declared.kept.Kept.{Kept}
use Rattle.lu_conform.specs.Growing.{Entry}
use Rattle.lu_conform.specs.Stages.{HasAllStages, IsAmong, Stage}
use Rattle.lu_conform.proofs.Among.{image_at, some_at}
use Rattle.lu_conform.proofs.Explored.{IsReached, its}
use Rattle.lu_conform.proofs.Onward.{all_are_among}
use Rattle.lu_conform.proofs.Same.{kept_eq, same_kept}

module _ (s : State) (recorded : Recorded) (list : List Entry) (far : ℕ → ℕ) (reached : (i : ℕ) (entry : Entry) → slice_get list i ≡ Some entry → IsReached s recorded list far i entry) (distinct : IsDistinct kept_eq (keys_of list)) (stages : List Stage) (all : HasAllStages s recorded.history stages) where
  abbrev there : (i : ℕ) (entry : Entry) → slice_get list i ≡ Some entry → IsAmong stages (its s entry.0)
  there i entry is =
      let known = reached i entry is in
      let met = all_are_among s recorded.history stages (reverse known.back) (its s entry.0).state known.history known.rest all known.leads known.whole in
      (met.0, subst (λ n. slice_get stages met.0 ≡ Some (record { state = (its s entry.0).state; seen = n })) (sym known.seen) met.1)

  abbrev slot : (i : ℕ) (o : Option Entry) → slice_get list i ≡ o → ℕ
  slot i None is = 0
  slot i (Some entry) is = (there i entry is).0

  slot_is : (i : ℕ) (entry : Entry) (o : Option Entry) (is : slice_get list i ≡ o) → o ≡ Some entry → slice_get stages (slot i o is) ≡ Some (its s entry.0)
  slot_is i entry None is e = absurd (cc)
  slot_is i entry (Some one) is e =
      subst (λ (x : Entry). slice_get stages (there i one is).0 ≡ Some (its s x.0)) (same_Some one entry e) (there i one is).1

  abbrev place : ℕ → ℕ
  place i = slot i (slice_get list i) refl

  place_is : (i : ℕ) (entry : Entry) → slice_get list i ≡ Some entry → slice_get stages (place i) ≡ Some (its s entry.0)
  place_is i entry is = slot_is i entry (slice_get list i) refl is

  into : Into place (length list) (length stages)
  into i lt =
      let one = some_at list i lt in
      slice_get_within stages (place i) (its s one.0.0) (place_is i one.0 one.1)

  abbrev key : Entry → Kept
  key entry = entry.0

  never_equal : (i j : ℕ) → i < j → j < length list → place i ≡ place j → ⊥
  never_equal i j lt within same =
      let x = some_at list i (omega arith) in
      let y = some_at list j within in
      let stages_same : its s x.0.0 ≡ its s y.0.0 =
      same_Some (its s x.0.0) (its s y.0.0) (sym (place_is i x.0 x.1) ∙ (ap (slice_get stages) same ∙ place_is j y.0 y.1)) in
      let equal : kept_eq x.0.0 y.0.0 ≡ true = (same_kept s.component s.matrix x.0.0 y.0.0 (reached i x.0 x.1).stands (reached j y.0 y.1).stands) stages_same in
      let keys : List Kept = map key list in
      let many : length keys ≡ length list = length-map list key in
      let apart = apart_from_distinct kept_eq keys i j x.0.0 distinct lt (omega (arith, many, within)) in
      let one : slice_get keys i ≡ Some x.0.0 = image_at key list i x.0 x.0.0 x.1 refl in
      let other : slice_get keys j ≡ Some y.0.0 = image_at key list j y.0 y.0.0 y.1 refl in
      let here : get_or keys i x.0.0 ≡ x.0.0 = get_or_from_slice_get keys i x.0.0 x.0.0 one in
      let behind : get_or keys j x.0.0 ≡ y.0.0 = get_or_from_slice_get keys j y.0.0 x.0.0 other in
      let differ : kept_eq x.0.0 y.0.0 ≡ false = sym (ap (λ z. kept_eq z (get_or keys j x.0.0)) here ∙ ap (λ z. kept_eq x.0.0 z) behind) ∙ apart in
      absurd (cc)

  one_to_one : OneToOne place (length list)
  one_to_one i j p q same =
      elim (cases_lt i j) as (λ _. i ≡ j) [
        | inl lt ↦ absurd (never_equal i j lt q same)
        | inr ge ↦ elim (cases_lt j i) as (λ _. i ≡ j) [
          | inl lt ↦ absurd (never_equal j i lt p (sym same))
          | inr le ↦ omega arith
        ]
      ]

  pub no_more : length list ≤ length stages
  no_more = pigeonhole (length list) (length stages) place into one_to_one
