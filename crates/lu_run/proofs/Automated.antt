-- The rests after operations of a run are the states of an automaton.
use Rattle.std.proofs.Common.{arith, ◌≡◌, ℕ, zero, suc, ◌<◌, ◌≤◌, ◌==◌, Bool, true, false, List, [], ◌∷◌, ◌++◌, length, Option, Some, None, slice_get, unwrap_or, refl, sym, ◌∙◌, ap, subst, inl, inr}
use Rattle.std.specs.Prelude.{if◌then◌else◌}
use Rattle.std.specs.Option.{option_map}
use Rattle.std.proofs.lemmas.Bool.{cases_lt}
use Rattle.std.proofs.lemmas.Bool.Decides.{eqb_tells}
use Rattle.std.proofs.lemmas.Option.{same_Some, slice_get-map, slice_get_past, slice_get_within}
use Rattle.lu_component.specs.Component.{Component}
use Rattle.lu_test.specs.declared.matrix.Call.{Call as ACall}
use Rattle.lu_test.specs.Matrix.{calls_of}
use Rattle.lu_machine.specs.Starts.{IsStart}
use Rattle.lu_machine.specs.States.{State}
use Rattle.lu_client.specs.Alone.{RestAfter}
use Rattle.lu_client.specs.Automaton.{GoesOnTo}
use Rattle.lu_client.proofs.Played.{goes_back, goes_on, ready}
use Rattle.lu_linearization.specs.Configurations.{IsAutomaton}
use Rattle.lu_run.specs.declared.run.RunEvent.{RunEvent}
use Rattle.lu_run.specs.declared.run.RunEvent.TheVariants.{Call as Calls, Return as Returns}
use Rattle.lu_run.specs.Judging.{call_of}
use Rattle.lu_run.specs.Offending.{NextRest}
use Rattle.lu_run.specs.Runs.{IsEventOf, IsRun, calls_by, listed, matrix_of, numbers_of, with_numbers}

-- ---- lines

module _ (calls : List ACall) where
  there : (n : ℕ) → n < length calls → (call : ACall) × (slice_get calls n ≡ Some call)
  there n lt = by (slice_get calls n) refl
    where
      by : (o : Option ACall) → slice_get calls n ≡ o → (call : ACall) × (slice_get calls n ≡ Some call)
      by (Some call) e = (call, e)
      by None e = absurd (past calls n lt e)
        where
          past : (xs : List ACall) (m : ℕ) → m < length xs → slice_get xs m ≡ None → ⊥
          past [] m lt e = omega arith
          past (x ∷ xs) zero lt e = cc
          past (x ∷ xs) (suc m) lt e = past xs m (omega arith) e

  pub line_to : (numbers : List ℕ) → ((i n : ℕ) → slice_get numbers i ≡ Some n → n < length calls) → (k : ℕ) (call : ACall) → slice_get (with_numbers calls numbers) k ≡ Some call → slice_get calls (unwrap_or (slice_get numbers k) (length calls)) ≡ Some call
  line_to [] below k call at = absurd cc
  line_to (n ∷ numbers) below k call at =
      let first = there n (below 0 n refl) in
      let whole : slice_get (first.0 ∷ with_numbers calls numbers) k ≡ Some call = ap (λ o. slice_get (listed o ++ with_numbers calls numbers) k) (sym first.1) ∙ at in
      by k first.0 first.1 whole (λ j. line_to numbers (λ i m is. below (suc i) m is) j call)
    where
      by : (k : ℕ) (x : ACall) → slice_get calls n ≡ Some x → slice_get (x ∷ with_numbers calls numbers) k ≡ Some call → ((j : ℕ) → slice_get (with_numbers calls numbers) j ≡ Some call → slice_get calls (unwrap_or (slice_get numbers j) (length calls)) ≡ Some call) → slice_get calls (unwrap_or (slice_get (n ∷ numbers) k) (length calls)) ≡ Some call
      by zero x here at rest = here ∙ at
      by (suc k) x here at rest = rest k at

  pub line_back : (numbers : List ℕ) → ((i n : ℕ) → slice_get numbers i ≡ Some n → n < length calls) → (k : ℕ) (call : ACall) → slice_get calls (unwrap_or (slice_get numbers k) (length calls)) ≡ Some call → slice_get (with_numbers calls numbers) k ≡ Some call
  line_back [] below k call at = absurd (let within = slice_get_within calls (length calls) call at in omega (arith, within))
  line_back (n ∷ numbers) below k call at =
      let first = there n (below 0 n refl) in
      ap (λ o. slice_get (listed o ++ with_numbers calls numbers) k) first.1 ∙ by k first.0 first.1 at (λ j. line_back numbers (λ i m is. below (suc i) m is) j call)
    where
      by : (k : ℕ) (x : ACall) → slice_get calls n ≡ Some x → slice_get calls (unwrap_or (slice_get (n ∷ numbers) k) (length calls)) ≡ Some call → ((j : ℕ) → slice_get calls (unwrap_or (slice_get numbers j) (length calls)) ≡ Some call → slice_get (with_numbers calls numbers) j ≡ Some call) → slice_get (x ∷ with_numbers calls numbers) k ≡ Some call
      by zero x here at rest = sym here ∙ at
      by (suc k) x here at rest = rest k at

-- ---- the numbers of a run

module _ (calls : List ACall) (t : ℕ) where
  pub numbers_below : (events : List RunEvent) → ((i : ℕ) (e : RunEvent) → slice_get events i ≡ Some e → IsEventOf calls e) → (i n : ℕ) → slice_get (numbers_of t events) i ≡ Some n → n < length calls
  numbers_below [] all i n at = absurd cc
  numbers_below (Calls u m ∷ events) all i n at = by (u == t) i at (λ k. numbers_below events (λ j e. all (suc j) e) k n)
    where
      by : (b : Bool) (i : ℕ) → slice_get (if b then m ∷ numbers_of t events else numbers_of t events) i ≡ Some n → ((k : ℕ) → slice_get (numbers_of t events) k ≡ Some n → n < length calls) → n < length calls
      by true zero is rest = subst (λ x. x < length calls) (same_Some m n is) (all 0 (Calls u m) refl).1
      by true (suc i) is rest = rest i is
      by false i is rest = rest i is
  numbers_below (Returns u outcome ∷ events) all i n at = numbers_below events (λ j e. all (suc j) e) i n at

  pub numbers_none : 8 ≤ t → (events : List RunEvent) → ((i : ℕ) (e : RunEvent) → slice_get events i ≡ Some e → IsEventOf calls e) → numbers_of t events ≡ []
  numbers_none past [] all = refl
  numbers_none past (Calls u m ∷ events) all =
      elim (eqb_tells u t) as (λ _. (if u == t then m ∷ numbers_of t events else numbers_of t events) ≡ []) [
        | inl is ↦ absurd (let seat = (all 0 (Calls u m) refl).0 in let same = is.1 in omega (arith, seat, same, past))
        | inr is ↦ ap (λ b. if b then m ∷ numbers_of t events else numbers_of t events) is.0 ∙ numbers_none past events (λ j e. all (suc j) e)
      ]
  numbers_none past (Returns u outcome ∷ events) all = numbers_none past events (λ j e. all (suc j) e)

-- ---- the matrix of a run

eight : (t : ℕ) → t < 8 → slice_get (0 ∷ 1 ∷ 2 ∷ 3 ∷ 4 ∷ 5 ∷ 6 ∷ 7 ∷ []) t ≡ Some t
eight zero lt = refl
eight (suc zero) lt = refl
eight (suc (suc zero)) lt = refl
eight (suc (suc (suc zero))) lt = refl
eight (suc (suc (suc (suc zero)))) lt = refl
eight (suc (suc (suc (suc (suc zero))))) lt = refl
eight (suc (suc (suc (suc (suc (suc zero)))))) lt = refl
eight (suc (suc (suc (suc (suc (suc (suc zero))))))) lt = refl
eight (suc (suc (suc (suc (suc (suc (suc (suc t)))))))) lt = absurd (omega arith)

pub own_calls : (setup calls : List ACall) (events : List RunEvent) (t : ℕ) → t < 8 → calls_of (matrix_of setup calls events) t ≡ calls_by calls events t
own_calls setup calls events t lt =
    ap (λ o. unwrap_or o []) (slice_get-map (calls_by calls events) (0 ∷ 1 ∷ 2 ∷ 3 ∷ 4 ∷ 5 ∷ 6 ∷ 7 ∷ []) t ∙ ap (option_map (calls_by calls events)) (eight t lt))

pub no_calls : (setup calls : List ACall) (events : List RunEvent) (t : ℕ) → 8 ≤ t → calls_of (matrix_of setup calls events) t ≡ []
no_calls setup calls events t past =
    ap (λ o. unwrap_or o []) (slice_get-map (calls_by calls events) (0 ∷ 1 ∷ 2 ∷ 3 ∷ 4 ∷ 5 ∷ 6 ∷ 7 ∷ []) t ∙ ap (option_map (calls_by calls events)) (slice_get_past (0 ∷ 1 ∷ 2 ∷ 3 ∷ 4 ∷ 5 ∷ 6 ∷ 7 ∷ []) t past))

module _ (c : Component) (setup calls : List ACall) (events : List RunEvent) (run : IsRun calls events) where
  pub next_to : (t k : ℕ) (call : ACall) → slice_get (calls_of (matrix_of setup calls events) t) k ≡ Some call → slice_get calls (unwrap_or (slice_get (numbers_of t events) k) (length calls)) ≡ Some call
  next_to t k call at = elim (cases_lt t 8) as (λ _. slice_get calls (unwrap_or (slice_get (numbers_of t events) k) (length calls)) ≡ Some call) [
    | inl lt ↦ line_to calls (numbers_of t events) (numbers_below calls t events run.events_of) k call (ap (λ xs. slice_get xs k) (sym (own_calls setup calls events t lt)) ∙ at)
    | inr past ↦ absurd (let none : slice_get {X = ACall} [] k ≡ Some call = ap (λ xs. slice_get xs k) (sym (no_calls setup calls events t past)) ∙ at in cc)
  ]

  pub next_back : (t k : ℕ) (call : ACall) → slice_get calls (unwrap_or (slice_get (numbers_of t events) k) (length calls)) ≡ Some call → slice_get (calls_of (matrix_of setup calls events) t) k ≡ Some call
  next_back t k call at = elim (cases_lt t 8) as (λ _. slice_get (calls_of (matrix_of setup calls events) t) k ≡ Some call) [
    | inl lt ↦ ap (λ xs. slice_get xs k) (own_calls setup calls events t lt) ∙ line_back calls (numbers_of t events) (numbers_below calls t events run.events_of) k call at
    | inr past ↦ absurd (
        let none : slice_get calls (length calls) ≡ Some call = ap (λ xs. slice_get calls (unwrap_or (slice_get xs k) (length calls))) (sym (numbers_none calls t past events run.events_of)) ∙ at in
        let within = slice_get_within calls (length calls) call none in omega (arith, within))
  ]

  pub automaton : (s : State) → IsStart c (matrix_of setup calls events) s → IsAutomaton (RestAfter s) (NextRest c calls) (call_of calls events)
  automaton s start q op y = (
    (λ after.
        let on : GoesOnTo c (matrix_of setup calls events) s q op y = goes_on c (matrix_of setup calls events) s (ready c (matrix_of setup calls events) s start) q op y after in
        (on.rest, on.before, (on.call, next_to op.thread _ on.call on.next, on.plays))),
    (λ (x, before, (a, called, plays)).
        goes_back c (matrix_of setup calls events) s (ready c (matrix_of setup calls events) s start) q op y (record { rest = x; before = before; call = a; next = next_back op.thread _ a called; plays = plays })),
  )
