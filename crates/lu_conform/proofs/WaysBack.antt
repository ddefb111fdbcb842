-- Ways back to the start from the stages that are kept.
use Rattle.std.proofs.Common.{arith, ◌≡◌, ℕ, List, [], ◌∷◌, ◌++◌, Option, Some, None, slice_get, refl, sym, ◌∙◌, ap, subst, length-append}
use Rattle.std.specs.Option.{option_and_then}
use Rattle.std.proofs.lemmas.Option.{same_Some}
use Rattle.lu_test.specs.declared.schedule.Move.{Move}
use Rattle.lu_conform.specs.declared.kept.Arrival.{Arrival}
use Rattle.lu_conform.specs.Growing.{Entry}
use Rattle.lu_conform.specs.Ways.{IsWayBack, arrival_at}
use Rattle.lu_conform.proofs.Among.{at_left, some_at}

pub arrival_is : (list : List Entry) (place : ℕ) (entry : Entry) → slice_get list place ≡ Some entry → arrival_at list place ≡ entry.1
arrival_is list place entry at = ap (option_and_then (λ (e : Entry). e.1)) at

-- where something led, a stage is kept
pub arrival_there : (list : List Entry) (place : ℕ) (a : Arrival) → arrival_at list place ≡ Some a → (entry : Entry) × (slice_get list place ≡ Some entry) × (entry.1 ≡ Some a)
arrival_there list place a is = by (slice_get list place) refl is
  where
    by : (o : Option Entry) → slice_get list place ≡ o → option_and_then (λ (e : Entry). e.1) o ≡ Some a → (entry : Entry) × (slice_get list place ≡ Some entry) × (entry.1 ≡ Some a)
    by None at h = absurd (cc)
    by (Some entry) at h = (entry, at, h)

-- a way back stays one as the list grows
pub way_back_more : (old more : List Entry) (back : List Move) (place : ℕ) → IsWayBack old place back → IsWayBack (old ++ more) place back
way_back_more old more [] place way =
    let there = some_at old place way.0 in
    let sum = length-append old more in (
      omega (arith, sum, way.0),
      arrival_is (old ++ more) place there.0 (at_left old more place there.0 there.1) ∙ (sym (arrival_is old place there.0 there.1) ∙ way.1),
    )
way_back_more old more (m ∷ back) place way =
    let there = arrival_there old place (record { parent = way.0; by = m }) way.1 in (
      way.0,
      arrival_is (old ++ more) place there.0 (at_left old more place there.0 there.1) ∙ there.2,
      way_back_more old more back way.0 way.2,
    )

-- there is one alone
pub way_back_same : (list : List Entry) (place : ℕ) (a b : List Move) → IsWayBack list place a → IsWayBack list place b → a ≡ b
way_back_same list place [] [] p q = refl
way_back_same list place [] (n ∷ b) p q = absurd (let e = sym p.1 ∙ q.1 in cc)
way_back_same list place (m ∷ a) [] p q = absurd (let e = sym q.1 ∙ p.1 in cc)
way_back_same list place (m ∷ a) (n ∷ b) p q =
    let same : record { parent = p.0; by = m } ≡ record { parent = q.0; by = n } = same_Some (record { parent = p.0; by = m }) (record { parent = q.0; by = n }) (sym p.1 ∙ q.1) in
    let rest : a ≡ b = way_back_same list p.0 a b p.2 (subst (λ i. IsWayBack list i b) (sym (ap (λ (x : Arrival). x.parent) same)) q.2) in
    ap (λ (x : Arrival). x.by ∷ a) same ∙ ap (λ x. n ∷ x) rest
