-- What a history is without the pending calls of other threads.
use Rattle.std.proofs.Common.{◌≡◌, ◌≢◌, ℕ, zero, suc, ◌+◌, ◌-◌, ◌<◌, ◌≤◌, Bool, true, false, cond, List, [], ◌∷◌, length, take, Option, Some, slice_get, get_or, None, ◌++◌, inl, inr, refl, sym, ap, ◌∙◌, subst, arith}
use Rattle.std.specs.Prelude.{◌||◌, nat_lt, map}
use Rattle.std.specs.List.{filter}
use Rattle.std.proofs.lemmas.Bool.{lt-ltb, ltb-true, ne_eqb, cases_lt}
use Rattle.std.proofs.lemmas.Bool.Decides.{eqb_tells}
use Rattle.lu_machine.specs.declared.event.Event.{Event}
use Rattle.lu_machine.specs.declared.event.Event.TheVariants.{Call}
use Rattle.lu_machine.specs.declared.event.Outcome.TheVariants.{Trap}
use Rattle.lu_history.specs.declared.operation.OpId.{OpId}
use Rattle.lu_history.specs.declared.serial.SerialOutcome.TheVariants.{Stuck}
use Rattle.lu_history.specs.Histories.{calls, outcomes, pending, Fits, IsWellFormed, AreBefore}
use Rattle.lu_history.specs.Parts.{part, as_serial, has_return, is_kept, keep_pending}
use Rattle.lu_witness.specs.Kept.{kept_events}
use Rattle.lu_history.proofs.Events.{same_number, in_turn, call_of}
use Rattle.lu_history.proofs.Filtered.{calls_kept, outcomes_kept, filtered_fits, is_kept_count}
use Rattle.lu_history.proofs.PartEntries.{part_pending, part_returned, part_below, part_past}

-- what stands at a place of a filtered list: its place in the list, and what is before it there
record FilteredAt {X : Type 0} (p : X → Bool) (xs kept : List X) (j : ℕ) (x : X) : Type 0 where
  place : ℕ
  at : slice_get xs place ≡ Some x
  before : take j kept ≡ filter p (take place xs)
  passes : p x ≡ true

filtered_at : {X : Type 0} (p : X → Bool) (xs : List X) (j : ℕ) (x : X) → slice_get (filter p xs) j ≡ Some x → FilteredAt p xs (filter p xs) j x
filtered_at p [] j x at = cc
filtered_at p (y ∷ xs) j x at = go (λ k here. filtered_at p xs k x here) (p y) refl j at
  where
    go : ((k : ℕ) → slice_get (filter p xs) k ≡ Some x → FilteredAt p xs (filter p xs) k x) → (b : Bool) → p y ≡ b → (j : ℕ) → slice_get (cond b (y ∷ filter p xs) (filter p xs)) j ≡ Some x → FilteredAt p (y ∷ xs) (cond b (y ∷ filter p xs) (filter p xs)) j x
    go later true e zero at = let same : y ≡ x = cc in record { place = 0; at = at; before = refl; passes = sym (ap p same) ∙ e }
    go later true e (suc j) at =
        let rest = later j at in
        record {
          place = suc rest.place;
          at = rest.at;
          before = ap (λ g. y ∷ g) rest.before ∙ sym (ap (λ b. cond b (y ∷ filter p (take rest.place xs)) (filter p (take rest.place xs))) e);
          passes = rest.passes;
        }
    go later false e j at =
        let rest = later j at in
        record {
          place = suc rest.place;
          at = rest.at;
          before = rest.before ∙ sym (ap (λ b. cond b (y ∷ filter p (take rest.place xs)) (filter p (take rest.place xs))) e);
          passes = rest.passes;
        }

module _ (t : ℕ) (h : List Event) (well : IsWellFormed h) where
  pub keep_well_formed : IsWellFormed (keep_pending t h)
  keep_well_formed j e at =
      let found = filtered_at (is_kept t h) h j e at in
      subst (λ g. Fits g e) (sym found.before) (filtered_fits t h well found.place e found.at)

  -- what returned before a call is kept
  pub keep_before : (b : OpId) (counts : List ℕ) → AreBefore h b counts → AreBefore (keep_pending t h) b counts
  keep_before b counts are j u call =
      let found = filtered_at (is_kept t h) h j (Call b.t b.k) call in
      are found.place u found.at ∙ sym (ap (λ g. length (outcomes u g)) found.before ∙ ap length (outcomes_kept t h u (take found.place h)))

  own_calls : calls t (keep_pending t h) ≡ calls t h
  own_calls = calls_kept (is_kept t h) t h (λ j k at. ap (λ b. b || has_return h (record { t = t; k = k })) (same_number t))

  -- another thread has as many calls as returns
  other_calls : (u : ℕ) → u ≢ t → calls u (keep_pending t h) ≡ length (outcomes u h)
  other_calls u other =
      let k : ℕ = length (outcomes u h) in
      let turn = in_turn (keep_pending t h) keep_well_formed u in
      let same : length (outcomes u (keep_pending t h)) ≡ k = ap length (outcomes_kept t h u h) in
      elim (cases_lt k (calls u (keep_pending t h))) as (λ _. calls u (keep_pending t h) ≡ k) [
        | inl more ↦
            let call = call_of (keep_pending t h) keep_well_formed (record { t = u; k = k }) more in
            let found = filtered_at (is_kept t h) h call.0 (Call u k) call.1 in
            let returned : nat_lt k k ≡ true = ap (λ b. b || nat_lt k k) (sym (ne_eqb u t other)) ∙ sym (is_kept_count t h well u k) ∙ found.passes in
            absurd (omega (arith, ltb-true k k returned))
        | inr few ↦ omega (arith, turn.returned)
      ]

  pub keep_calls_own : (u : ℕ) → u ≡ t → calls u (keep_pending t h) ≡ calls u h
  keep_calls_own u same = ap (λ x. calls x (keep_pending t h)) same ∙ own_calls ∙ sym (ap (λ x. calls x h) same)

  -- a thread's pending call is left out where it is another's
  pub keep_calls_other : (u : ℕ) → u ≢ t → length (outcomes u h) < calls u h → calls u (keep_pending t h) + 1 ≡ calls u h
  keep_calls_other u other waits = let turn = in_turn h well u in omega (arith, other_calls u other, turn.open_one)

  pub keep_calls_returned : (u : ℕ) → calls u h ≤ length (outcomes u h) → calls u (keep_pending t h) ≡ calls u h
  keep_calls_returned u none = elim (eqb_tells u t) as (λ _. calls u (keep_pending t h) ≡ calls u h) [
    | inl own ↦ keep_calls_own u own.1
    | inr other ↦ let turn = in_turn h well u in omega (arith, other_calls u other.1, turn.returned)
  ]

  same_part : (u : ℕ) → calls u (keep_pending t h) ≡ calls u h → part u (keep_pending t h) ≡ part u h
  same_part u same =
      let outs = outcomes_kept t h u h in
      elim (cases_lt (length (outcomes u h)) (calls u h)) as (λ _. part u (keep_pending t h) ≡ part u h) [
        | inl waits ↦ part_pending u (keep_pending t h) (omega (arith, ap length outs)) ∙ ap (λ os. map as_serial os ++ Stuck ∷ []) outs ∙ sym (part_pending u h waits)
        | inr none ↦ part_returned u (keep_pending t h) (omega (arith, ap length outs)) ∙ ap (map as_serial) outs ∙ sym (part_returned u h none)
      ]

  -- what is kept ended as it did
  pub keep_ended : (u k : ℕ) → k < calls u (keep_pending t h) → slice_get (part u h) k ≡ slice_get (part u (keep_pending t h)) k
  keep_ended u k lt = elim (eqb_tells u t) as (λ _. slice_get (part u h) k ≡ slice_get (part u (keep_pending t h)) k) [
    | inl own ↦ ap (λ x. slice_get x k) (sym (same_part u (keep_calls_own u own.1)))
    | inr other ↦
        let outs = outcomes_kept t h u h in
        let below : k < length (outcomes u h) = omega (arith, other_calls u other.1) in
        part_below u h k Trap below
        ∙ ap (λ os. Some (as_serial (get_or os k Trap))) (sym outs)
        ∙ sym (part_below u (keep_pending t h) k Trap (omega (arith, ap length outs)))
  ]

  pub keep_past : (u k : ℕ) → calls u (keep_pending t h) ≤ k → slice_get (part u (keep_pending t h)) k ≡ None
  keep_past = part_past (keep_pending t h) keep_well_formed

-- the same of a history that is kept whole, or with one pending call alone
module _ (h : List Event) (well : IsWellFormed h) where
  pub kept_before : (alone : Option ℕ) (b : OpId) (counts : List ℕ) → AreBefore h b counts → AreBefore (kept_events alone h) b counts
  kept_before None b counts are = are
  kept_before (Some t) b counts are = keep_before t h well b counts are

  pub kept_ended : (alone : Option ℕ) (u k : ℕ) → k < calls u (kept_events alone h) → slice_get (part u h) k ≡ slice_get (part u (kept_events alone h)) k
  kept_ended None u k lt = refl
  kept_ended (Some t) u k lt = keep_ended t h well u k lt

  pub kept_past : (alone : Option ℕ) (u k : ℕ) → calls u (kept_events alone h) ≤ k → slice_get (part u (kept_events alone h)) k ≡ None
  kept_past None u k past = part_past h well u k past
  kept_past (Some t) u k past = keep_past t h well u k past

  pub one_fewer : (t u n : ℕ) → (t ≡ u → ⊥) → pending u h ≡ true → n ≡ calls u h → n - 1 ≡ calls u (keep_pending t h)
  one_fewer t u n other waits count = omega (arith, keep_calls_other t h well u (λ e. other (sym e)) (ltb-true _ _ waits))

  pub as_many_own : (t u n : ℕ) → t ≡ u → n ≡ calls u h → n ≡ calls u (keep_pending t h)
  as_many_own t u n same count = count ∙ sym (keep_calls_own t h well u (sym same))

  pub as_many_returned : (t u n : ℕ) → pending u h ≡ false → n ≡ calls u h → n ≡ calls u (keep_pending t h)
  as_many_returned t u n none count = elim (cases_lt (length (outcomes u h)) (calls u h)) as (λ _. n ≡ calls u (keep_pending t h)) [
    | inl waits ↦ let e = lt-ltb (length (outcomes u h)) (calls u h) waits in cc (e, none)
    | inr returned ↦ count ∙ sym (keep_calls_returned t h well u returned)
  ]
