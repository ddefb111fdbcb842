-- A history without the pending calls of other threads.
use Rattle.std.proofs.Common.{arith, ◌≡◌, ◌≢◌, ℕ, zero, suc, ◌<◌, ◌≤◌, Bool, true, false, cond, List, [], ◌∷◌, length, take, Some, slice_get, inl, inr, refl, sym, ap, ◌∙◌, subst}
use Rattle.std.specs.Prelude.{◌==◌, ◌&&◌, ◌||◌, ◌↔◌, nat_lt, filter}
use Rattle.std.proofs.lemmas.Bool.{cases_lt, eq-eqb, lt-ltb, ne_eqb}
use Rattle.std.proofs.lemmas.Bool.Decides.{eqb_tells}
use Rattle.std.proofs.lemmas.List.{take_all}
use Rattle.std.proofs.lemmas.Option.{same_Some, slice_get_within}
use Rattle.lu_machine.specs.declared.event.Event.{Event}
use Rattle.lu_machine.specs.declared.event.Event.TheVariants.{Call, Return}
use Rattle.lu_history.specs.declared.operation.OpId.{OpId}
use Rattle.lu_history.specs.declared.serial.SerialOp.{SerialOp}
use Rattle.lu_history.specs.Histories.{IsReturnAt, calls, outcomes}
use Rattle.lu_history.specs.Parts.{has_return, is_kept, keep_pending}
use Rattle.lu_history.proofs.Events.{outcomes_grow, same_number}
use Rattle.lu_history.proofs.Filtered.{calls_kept, outcomes_kept}
use Rattle.lu_history.proofs.PartEntries.{ltb_false}
use Rattle.lu_witness.specs.Witnesses.{IsEntryAt}
use Rattle.lu_linearization.specs.Precedence.{KeepsPrecedence}
use Rattle.lu_linearization.specs.Linearizations.{ComesNext, HasSequentialThreads}
use Rattle.lu_linearization.proofs.Sequential.{call_of, called_at, front_to, in_turn, return_of, returned_at}

-- an operation that is found to return has its return somewhere
found_return : (h : List Event) (a : OpId) → has_return h a ≡ true → (i : ℕ) × IsReturnAt h i a
found_return [] a e = cc
found_return (Call u k ∷ h) a e = let found = found_return h a e in (suc found.0, found.1)
found_return (Return u k o ∷ h) a e =
    let later : has_return h a ≡ true → (i : ℕ) × IsReturnAt (Return u k o ∷ h) i a = λ rest. (let found = found_return h a rest in (suc found.0, found.1)) in
    elim (eqb_tells u a.t) as (λ _. (i : ℕ) × IsReturnAt (Return u k o ∷ h) i a) [
      | inl thread ↦ elim (eqb_tells k a.k) as (λ _. (i : ℕ) × IsReturnAt (Return u k o ∷ h) i a) [
        | inl number ↦ (0, (o, ap (λ x. Some (Return x k o)) thread.1 ∙ ap (λ x. Some (Return a.t x o)) number.1))
        | inr other ↦ later (sym (ap (λ b. ((u == a.t) && b) || has_return h a) other.0 ∙ ap (λ b. (b && false) || has_return h a) thread.0) ∙ e)
      ]
      | inr other ↦ later (sym (ap (λ b. (b && (k == a.k)) || has_return h a) other.0) ∙ e)
    ]

either_way : (b c : Bool) → c ≡ true → (b || c) ≡ true
either_way true c e = refl
either_way false c e = e

return_found : (h : List Event) (i : ℕ) (a : OpId) → IsReturnAt h i a → has_return h a ≡ true
return_found [] i a at = let e = at.1 in absurd (cc)
return_found (Call u k ∷ h) zero a at = let e = at.1 in absurd (cc)
return_found (Call u k ∷ h) (suc i) a at = return_found h i a at
return_found (Return u k o ∷ h) zero a at =
    let e = at.1 in
    let thread : u ≡ a.t = cc in
    let number : k ≡ a.k = cc in
    ap (λ b. (b && (k == a.k)) || has_return h a) (eq-eqb u a.t thread) ∙ ap (λ b. b || has_return h a) (eq-eqb k a.k number)
return_found (Return u k o ∷ h) (suc i) a at = either_way ((u == a.t) && (k == a.k)) (has_return h a) (return_found h i a at)

-- an operation returns exactly where its number is below that of its thread's outcomes
has_return_count : (h : List Event) → HasSequentialThreads h → (a : OpId) → has_return h a ≡ nat_lt a.k (length (outcomes a.t h))
has_return_count h is a =
    elim (cases_lt a.k (length (outcomes a.t h))) as (λ _. has_return h a ≡ nat_lt a.k (length (outcomes a.t h))) [
      | inl lt ↦ (let back = return_of h is a lt in return_found h back.0 a back.1 ∙ sym (lt-ltb a.k (length (outcomes a.t h)) lt))
      | inr le ↦
          (let never : (b : Bool) → has_return h a ≡ b → b ≡ false = elim [
            | true ↦ λ e. (let back = found_return h a e in let counted = returned_at h is back.0 a back.1 in absurd (omega (arith, counted, le)))
            | false ↦ λ e. refl
          ] in
          never (has_return h a) refl ∙ sym (ltb_false a.k (length (outcomes a.t h)) le))
    ]

module _ (p : Event → Bool) where
  -- the place of a kept event among the kept events
  kept_place : (h : List Event) (j : ℕ) (x : Event) → slice_get h j ≡ Some x → p x ≡ true → (i : ℕ) × (slice_get (filter p h) i ≡ Some x) × (take i (filter p h) ≡ filter p (take j h))
  kept_place [] j x at is = absurd (cc)
  kept_place (y ∷ h) zero x at is = (0, ap (λ (b : Bool). slice_get (cond b (y ∷ filter p h) (filter p h)) 0) here ∙ at, refl)
    where
      here : p y ≡ true
      here = ap p (same_Some y x at) ∙ is
  kept_place (y ∷ h) (suc j) x at is = by (p y) (kept_place h j x at is)
    where
      by : (b : Bool) → (i : ℕ) × (slice_get (filter p h) i ≡ Some x) × (take i (filter p h) ≡ filter p (take j h)) → (i : ℕ) × (slice_get (cond b (y ∷ filter p h) (filter p h)) i ≡ Some x) × (take i (cond b (y ∷ filter p h) (filter p h)) ≡ cond b (y ∷ filter p (take j h)) (filter p (take j h)))
      by true (i, there, front) = (suc i, there, ap (λ g. y ∷ g) front)
      by false r = r

  -- and its place before
  place_of : (h : List Event) (i : ℕ) (x : Event) → slice_get (filter p h) i ≡ Some x → (j : ℕ) × (slice_get h j ≡ Some x) × (p x ≡ true) × (take i (filter p h) ≡ filter p (take j h))
  place_of [] i x at = absurd (cc)
  place_of (y ∷ h) i x at = by (λ n. place_of h n x) (p y) refl i at
    where
      by : ((n : ℕ) → slice_get (filter p h) n ≡ Some x → (j : ℕ) × (slice_get h j ≡ Some x) × (p x ≡ true) × (take n (filter p h) ≡ filter p (take j h))) → (b : Bool) → p y ≡ b → (n : ℕ) → slice_get (cond b (y ∷ filter p h) (filter p h)) n ≡ Some x → (j : ℕ) × (slice_get (y ∷ h) j ≡ Some x) × (p x ≡ true) × (take n (cond b (y ∷ filter p h) (filter p h)) ≡ filter p (take j (y ∷ h)))
      by rest true e zero here = (0, here, ap p (sym (same_Some y x here)) ∙ e, refl)
      by rest true e (suc n) here = let r = rest n here in (suc r.0, r.1, r.2, ap (λ g. y ∷ g) r.3 ∙ sym (ap (λ b. cond b (y ∷ filter p (take r.0 h)) (filter p (take r.0 h))) e))
      by rest false e n here = let r = rest n here in (suc r.0, r.1, r.2, r.3 ∙ sym (ap (λ b. cond b (y ∷ filter p (take r.0 h)) (filter p (take r.0 h))) e))

module _ (t : ℕ) (h : List Event) (is : HasSequentialThreads h) where
  -- whether a call is kept, by its thread's number of outcomes
  is_kept_count : (u k : ℕ) → is_kept t h (Call u k) ≡ ((u == t) || nat_lt k (length (outcomes u h)))
  is_kept_count u k = ap (λ b. (u == t) || b) (has_return_count h is (record { t = u; k = k }))

  keeps_call : (u k : ℕ) → k < length (outcomes u h) → is_kept t h (Call u k) ≡ true
  keeps_call u k lt = is_kept_count u k ∙ either_way (u == t) (nat_lt k (length (outcomes u h))) (lt-ltb k (length (outcomes u h)) lt)

  -- calls of a thread that have all returned are kept
  all_kept : (u i : ℕ) → calls u (take i h) ≤ length (outcomes u h) → calls u (filter (is_kept t h) (take i h)) ≡ calls u (take i h)
  all_kept u i le = calls_kept (is_kept t h) u (take i h) (λ j k at.
      keeps_call u k (let lt = called_at (take i h) j (record { t = u; k = k }) (front_to h is i) at in omega (arith, lt)))

  filtered_next : (i : ℕ) (e : Event) → slice_get h i ≡ Some e → ComesNext (filter (is_kept t h) (take i h)) e
  filtered_next i (Call u k) at =
      let next = is i (Call u k) at in
      let within = slice_get_within h i (Call u k) at in
      let grown : length (outcomes u (take i h)) ≤ length (outcomes u h) = subst (λ g. length (outcomes u (take i h)) ≤ length (outcomes u g)) (take_all (length h) h (omega arith)) (outcomes_grow u h i (length h) (omega arith)) in
      (all_kept u i (omega (arith, next.0, next.1)) ∙ next.0, ap length (outcomes_kept t h u (take i h)) ∙ next.1)
  filtered_next i (Return u k o) at =
      let next = is i (Return u k o) at in
      let returned = returned_at h is i (record { t = u; k = k }) (o, at) in
      (all_kept u i (omega (arith, next.0, returned)) ∙ next.0, ap length (outcomes_kept t h u (take i h)) ∙ next.1)

  pub kept_sequential : HasSequentialThreads (keep_pending t h)
  kept_sequential i e at =
      let there = place_of (is_kept t h) h i e at in
      subst (λ g. ComesNext g e) (sym there.3) (filtered_next there.0 e there.1)

  pub kept_outcomes : (u : ℕ) → outcomes u (keep_pending t h) ≡ outcomes u h
  kept_outcomes u = outcomes_kept t h u h

  front_kept : (j i : ℕ) → take i (keep_pending t h) ≡ filter (is_kept t h) (take j h) → HasSequentialThreads (filter (is_kept t h) (take j h))
  front_kept j i same = subst HasSequentialThreads same (front_to (keep_pending t h) kept_sequential i)

  -- what is called among the kept events was called
  called_more : (b : OpId) (j : ℕ) → HasSequentialThreads (filter (is_kept t h) (take j h)) → b.k < calls b.t (filter (is_kept t h) (take j h)) → b.k < calls b.t (take j h)
  called_more b j formed lt =
      let call = call_of (filter (is_kept t h) (take j h)) formed b lt in
      let there = place_of (is_kept t h) (take j h) call.0 (Call b.t b.k) call.1 in
      called_at (take j h) there.0 b (front_to h is j) there.1

  -- what was called, and is kept, is called among the kept events
  called_still : (b : OpId) (j : ℕ) → HasSequentialThreads (filter (is_kept t h) (take j h)) → is_kept t h (Call b.t b.k) ≡ true → b.k < calls b.t (take j h) → b.k < calls b.t (filter (is_kept t h) (take j h))
  called_still b j formed kept lt =
      let call = call_of (take j h) (front_to h is j) b lt in
      let there = kept_place (is_kept t h) (take j h) call.0 (Call b.t b.k) call.1 kept in
      called_at (filter (is_kept t h) (take j h)) there.0 b formed there.1

  pub precedence_kept : (q : List SerialOp) → ((b : OpId) (l : ℕ) → IsEntryAt q l b → b.k < calls b.t (keep_pending t h)) → KeepsPrecedence q h ↔ KeepsPrecedence q (keep_pending t h)
  precedence_kept q called = (
    (λ precedence i a ret j l b at lt bt.
        let there = place_of (is_kept t h) h i (Return a.t a.k ret.0) ret.1 in
        let before = precedence there.0 a (ret.0, there.1) j l b at lt bt in
        let call = call_of (keep_pending t h) kept_sequential b (called b l bt) in
        let kept = (place_of (is_kept t h) h call.0 (Call b.t b.k) call.1).2 in
        subst (λ g. b.k < calls b.t g) (sym there.3) (called_still b there.0 (front_kept there.0 i there.3) kept before)),
    (λ precedence j a ret k l b at lt bt.
        let there = kept_place (is_kept t h) h j (Return a.t a.k ret.0) ret.1 refl in
        let before = precedence there.0 a (ret.0, there.1) k l b at lt bt in
        called_more b j (front_kept j there.0 there.2) (subst (λ g. b.k < calls b.t g) there.2 before)),
  )

  pub own_calls : calls t (keep_pending t h) ≡ calls t h
  own_calls = calls_kept (is_kept t h) t h (λ j k at. ap (λ b. b || has_return h (record { t = t; k = k })) (same_number t))

  pub others_calls : (u : ℕ) → u ≢ t → calls u (keep_pending t h) ≡ length (outcomes u h)
  others_calls u other =
      let same = ap length (kept_outcomes u) in
      let low = (in_turn (keep_pending t h) kept_sequential u).returned in
      elim (cases_lt (length (outcomes u h)) (calls u (keep_pending t h))) as (λ _. calls u (keep_pending t h) ≡ length (outcomes u h)) [
        | inl more ↦
            (let b : OpId = record { t = u; k = length (outcomes u h) } in
            let call = call_of (keep_pending t h) kept_sequential b more in
            let kept = (place_of (is_kept t h) h call.0 (Call u b.k) call.1).2 in
            let never : nat_lt b.k (length (outcomes u h)) ≡ false = ltb_false b.k (length (outcomes u h)) (omega arith) in
            absurd (neither (u == t) (nat_lt b.k (length (outcomes u h))) (ne_eqb u t other) never (sym (is_kept_count u b.k) ∙ kept)))
        | inr le ↦ omega (arith, le, low, same)
      ]
    where
      neither : (a b : Bool) → a ≡ false → b ≡ false → (a || b) ≡ true → ⊥
      neither true b p q r = cc
      neither false true p q r = cc
      neither false false p q r = cc
