-- A failing schedule against a specification that has every serial history.
use Rattle.std.proofs.Common.{arith, ◌≡◌, ◌≢◌, ◌<◌, ◌≤◌, ◌+◌, ◌⊎◌, Bool, true, false, ℕ, zero, suc, List, [], ◌∷◌, ◌++◌, map, length, if◌then◌else◌, slice_get, Option, Some, None, refl, sym, ◌∙◌, ap, subst, inl, inr, length-append}
use Rattle.std.specs.Prelude.{◌==◌, ◌||◌}
use Rattle.std.proofs.lemmas.Bool.{eq-eqb}
use Rattle.std.proofs.lemmas.List.{length-map}
use Rattle.lu_test.specs.declared.schedule.Move.{Move}
use Rattle.lu_machine.specs.declared.event.Event.{Event}
use Rattle.lu_machine.specs.declared.event.Event.TheVariants.{Call, Return}
use Rattle.lu_machine.specs.declared.thread.Thread.{Thread}
use Rattle.lu_machine.specs.declared.thread.Activity.TheVariants.{Idle}
use Rattle.lu_machine.specs.States.{State, call_count}
use Rattle.lu_machine.specs.Steps.{Step}
use Rattle.lu_machine.specs.Ends.{IsComplete}
use Rattle.lu_machine.specs.Runs.{Leads, with_event}
use Rattle.lu_history.specs.declared.operation.OpId.{OpId}
use Rattle.lu_history.specs.declared.serial.SerialOutcome.{SerialOutcome}
use Rattle.lu_history.specs.declared.serial.SerialOutcome.TheVariants.{Stuck}
use Rattle.lu_history.specs.declared.serial.SerialOp.{SerialOp}
use Rattle.lu_history.specs.Histories.{IsCallAt, IsReturnAt, IsPending, calls, outcomes, pending}
use Rattle.lu_history.specs.Parts.{as_serial, has_return, is_kept, keep_pending, part}
use Rattle.lu_history.specs.Serial.{IsSerial}
use Rattle.lu_history.proofs.Filtered.{calls_kept, outcomes_kept}
use Rattle.lu_history.proofs.PartEntries.{part_pending}
use Rattle.lu_serial.specs.Serial.{HasOpen, IsSerialHistory}
use Rattle.lu_serial.proofs.Opening.{same_or_not}
use Rattle.lu_witness.specs.Goodness.{IsGoodAt}
use Rattle.lu_witness.specs.Witnesses.{entries}
use Rattle.lu_refute.specs.Linearizable.{Refutes}
use Rattle.lu_serial.specs.Whole.{IsQuiet}
use Rattle.lu_serial.proofs.Counts.{made_quiet, made_open, run_returns, run_calls}
use Rattle.lu_serial.proofs.Moves.{HasSeats, step_stepped, the_thread, done_of, complete_done}
use Rattle.lu_serial.proofs.Serially.{leads_count, leads_seats}
use Rattle.lu_serial.proofs.Ops.{NoCut}
use Rattle.lu_refute.proofs.Core.{AreApart, HasEach, HasRoom, HasStuck, IsWholeFrom, whole_is_serial}

-- ---- what was called

-- a return stands after an event too
later : (e : Option Event) (rest : List Event) (a : OpId) → (j : ℕ) × IsReturnAt rest j a → (i : ℕ) × IsReturnAt (with_event e rest) i a
later None rest a r = r
later (Some e) rest a r = (suc r.0, r.1)

return_along : (h k : List Event) (a : OpId) → k ≡ h → (j : ℕ) × IsReturnAt h j a → (j : ℕ) × IsReturnAt k j a
return_along h k a e r = subst (λ x. (j : ℕ) × IsReturnAt x j a) (sym e) r

-- an open operation returns, or is open at the end
open_run : (s : State) (u : List Move) (end : State) (h : List Event) → Leads s u end h → (t k : ℕ) (a : Thread) → slice_get s.threads t ≡ Some a → a.activity ≢ Idle → a.done ≡ k → ((j : ℕ) × IsReturnAt h j (record { t = t; k = k })) ⊎ HasOpen end t
open_run s [] end h p t k a stands busy number = inr (a, ap (λ (x : State). slice_get x.threads t) p.0 ∙ stands, busy)
open_run s (m ∷ u) end h p t k a stands busy number =
    let by = step_stepped s m p.0 p.1 p.3 in
    let on : (b : Thread) → slice_get p.0.threads t ≡ Some b → b.activity ≢ Idle → b.done ≡ k → ((j : ℕ) × IsReturnAt h j (record { t = t; k = k })) ⊎ HasOpen end t =
    (λ b is open_yet same. elim (open_run p.0 u end p.2 p.4 t k b is open_yet same) [
      | inl r ↦ inl (return_along (with_event p.1 p.2) h (record { t = t; k = k }) p.5 (later p.1 p.2 (record { t = t; k = k }) r))
      | inr o ↦ inr o
    ]) in
    elim (same_or_not t m.thread) [
      | inr apart ↦ on a (by.others t apart ∙ stands) busy number
      | inl here ↦
          (let was : slice_get s.threads t ≡ Some by.before = ap (slice_get s.threads) here ∙ by.was in
          let is : slice_get p.0.threads t ≡ Some by.after = ap (slice_get p.0.threads) here ∙ by.is in
          let one : by.before ≡ a = the_thread s t by.before a was stands in
          let count : by.before.done ≡ k = ap (λ (x : Thread). x.done) one ∙ number in
          elim by.kind [
            | inl called ↦ absurd (busy (ap (λ (x : Thread). x.activity) (sym one) ∙ called.0))
            | inr other ↦ elim other [
              | inl went ↦ on by.after is went.1 (went.2 ∙ count)
              | inr closed ↦ inl (return_along (Return m.thread by.before.done closed.3.0 ∷ p.2) h (record { t = t; k = k }) (p.5 ∙ ap (λ x. with_event x p.2) closed.3.1) (0, (closed.3.0, ap (λ (x : ℕ). Some (Return x by.before.done closed.3.0)) (sym here) ∙ ap (λ (x : ℕ). Some (Return t x closed.3.0)) count)))
            ]
          ])
    ]

call_first : (s : State) (m : Move) (new : State) (x : Event) → Step s m new (Some x) → (u : List Move) (end : State) (rest : List Event) → Leads new u end rest → (a : OpId) → x ≡ Call a.t a.k → ((j : ℕ) × IsReturnAt (x ∷ rest) j a) ⊎ HasOpen end a.t
call_first s m new x step u end rest leads a is =
    let by = step_stepped s m new (Some x) step in
    elim by.kind [
      | inl called ↦
          (let same : Call m.thread by.before.done ≡ Call a.t a.k = (let p = called.3 in cc) in
          let thread : m.thread ≡ a.t = cc in
          let number : by.before.done ≡ a.k = cc in
          elim (open_run new u end rest leads a.t a.k by.after (ap (slice_get new.threads) (sym thread) ∙ by.is) called.1 (called.2 ∙ number)) [
            | inl r ↦ inl (suc r.0, (r.1.0, r.1.1))
            | inr o ↦ inr o
          ])
      | inr other ↦ elim other [
        | inl went ↦ (let p = went.3 in absurd (cc))
        | inr closed ↦ (let p = closed.3.1 in absurd (cc))
      ]
    ]

by_event : (s : State) (m : Move) (next : State) (e : Option Event) → Step s m next e → (u : List Move) (end : State) (rest : List Event) → Leads next u end rest → ((i : ℕ) (a : OpId) → IsCallAt rest i a → ((j : ℕ) × IsReturnAt rest j a) ⊎ HasOpen end a.t) → (i : ℕ) (a : OpId) → IsCallAt (with_event e rest) i a → ((j : ℕ) × IsReturnAt (with_event e rest) j a) ⊎ HasOpen end a.t
by_event s m next None step u end rest leads more i a at = more i a at
by_event s m next (Some x) step u end rest leads more zero a at = call_first s m next x step u end rest leads a (cc)
by_event s m next (Some x) step u end rest leads more (suc i) a at =
    elim (more i a at) [ inl r ↦ inl (suc r.0, r.1) | inr o ↦ inr o ]

-- what was called has returned, or is open at the end
pub call_run : (s : State) (u : List Move) (end : State) (h : List Event) → Leads s u end h → (i : ℕ) (a : OpId) → IsCallAt h i a → ((j : ℕ) × IsReturnAt h j a) ⊎ HasOpen end a.t
call_run s [] end h p i a at = (let none : slice_get h i ≡ None = ap (λ x. slice_get x i) p.1 in let here : slice_get h i ≡ Some (Call a.t a.k) = at in absurd (cc))
call_run s (m ∷ u) end h p i a at =
    elim (by_event s m p.0 p.1 p.3 u end p.2 p.4 (call_run p.0 u end p.2 p.4) i a (subst (λ x. IsCallAt x i a) p.5 at)) [
      | inl r ↦ inl (return_along (with_event p.1 p.2) h a p.5 r)
      | inr o ↦ inr o
    ]

-- what is pending is open at the end
pub pending_open : (s : State) (u : List Move) (end : State) (h : List Event) → Leads s u end h → (a : OpId) → IsPending h a → HasOpen end a.t
pending_open s u end h leads a p =
    elim (call_run s u end h leads p.0.0 a p.0.1) [
      | inl r ↦ absurd (p.1 r.0 r.1)
      | inr o ↦ o
    ]

-- ---- witnesses with `Stuck`

self_kept : (h : List Event) (t k : ℕ) → is_kept t h (Call t k) ≡ true
self_kept h t k = ap (λ b. b || has_return h (record { t = t; k = k })) (eq-eqb t t refl)

-- of a pending call's thread more calls are kept than returns
kept_pending : (s : State) (u : List Move) (end : State) (h : List Event) → IsQuiet s → Leads s u end h → (a : OpId) → IsPending h a → length (outcomes a.t (keep_pending a.t h)) < calls a.t (keep_pending a.t h)
kept_pending s u end h quiet leads a p =
    let returns = run_returns s u end h leads a.t in
    let called = run_calls s u end h leads a.t in
    let before = made_quiet s a.t (quiet a.t) in
    let after = made_open end a.t (pending_open s u end h leads a p) in
    let kept_returns : length (outcomes a.t (keep_pending a.t h)) ≡ length (outcomes a.t h) = ap length (outcomes_kept a.t h a.t h) in
    let kept_calls : calls a.t (keep_pending a.t h) ≡ calls a.t h = calls_kept (is_kept a.t h) a.t h (λ j k at. self_kept h a.t k) in
    omega (arith, returns, called, before, after, kept_returns, kept_calls)

entries_stuck : (t : ℕ) (q : List SerialOp) (before : List SerialOutcome) → entries t q ≡ before ++ Stuck ∷ [] → HasStuck q
entries_stuck t [] [] e = absurd (cc)
entries_stuck t [] (o ∷ before) e = absurd (cc)
entries_stuck t (op ∷ q) before e = by_thread t op q before (op.thread == t) refl e (entries_stuck t q)
  where
    head_of : (op : SerialOp) (q : List SerialOp) (t : ℕ) (before : List SerialOutcome) → op.outcome ∷ entries t q ≡ before ++ Stuck ∷ [] → ((before : List SerialOutcome) → entries t q ≡ before ++ Stuck ∷ [] → HasStuck q) → HasStuck (op ∷ q)
    head_of op q t [] e more = inl (cc)
    head_of op q t (o ∷ before) e more = inr (more before (cc))

    by_thread : (t : ℕ) (op : SerialOp) (q : List SerialOp) (before : List SerialOutcome) (b : Bool) → (op.thread == t) ≡ b → entries t (op ∷ q) ≡ before ++ Stuck ∷ [] → ((before : List SerialOutcome) → entries t q ≡ before ++ Stuck ∷ [] → HasStuck q) → HasStuck (op ∷ q)
    by_thread t op q before true is e more = head_of op q t before (rw is at e) more
    by_thread t op q before false is e more = inr (more before (rw is at e))

part_long : (t : ℕ) (h : List Event) → length (outcomes t h) ≤ length (part t h)
part_long t h =
    let tail = if pending t h then Stuck ∷ [] else [] in
    let whole : length (part t h) ≡ length (map as_serial (outcomes t h)) + length tail = length-append (map as_serial (outcomes t h)) tail in
    let first : length (map as_serial (outcomes t h)) ≡ length (outcomes t h) = length-map (outcomes t h) as_serial in
    omega (arith, whole, first)

-- what is asked of a set of serial histories
pub record AreFit (s : State) (Set : List SerialOp → Type 0) : Type 0 where
  pub apart : AreApart Set
  pub serial : (q : List SerialOp) → Set q → IsSerial q
  pub room : (q : List SerialOp) → Set q → HasRoom s q

module _ (Set : List SerialOp → Type 0) (s : State) (bound : ℕ) (quiet : IsQuiet s) (seats : HasSeats s) (none : NoCut s bound) (fit : AreFit s Set) (has : HasEach s Set) where
  pub serial_member : (q : List SerialOp) → Set q → IsWholeFrom s q → IsSerialHistory s q
  serial_member q member whole = whole_is_serial q s bound Set quiet seats none has fit.apart member (fit.serial q member) (fit.room q member) whole

  module _ (u : List Move) (end : State) (h : List Event) (leads : Leads s u end h) where
    enough : IsComplete end → (t : ℕ) → call_count s t ≤ done_of s t + length (part t h)
    enough complete t =
        let all = complete_done end t (leads_seats s u end h leads seats) complete in
        let count = leads_count s u end h leads t in
        let returns = run_returns s u end h leads t in
        let long = part_long t h in
        omega (arith, all, count, returns, long)

    -- what is good for the set is good for the serial histories
    good_back : IsGoodAt Set end h → IsGoodAt (IsSerialHistory s) end h
    good_back (inl good) =
        let w = good.1 in
        inl (good.0, (w.0, serial_member w.0 w.1 (inr (λ t. (let long : length (entries t w.0) ≡ length (part t h) = ap length (w.2.parts t) in let le = enough good.0 t in omega (arith, long, le)))), w.2))
    good_back (inr good) =
        inr (
          good.0,
          (λ a p.
              (let w = good.1 a p in
              let is : entries a.t w.0 ≡ map as_serial (outcomes a.t (keep_pending a.t h)) ++ Stuck ∷ [] = w.2.parts a.t ∙ part_pending a.t (keep_pending a.t h) (kept_pending s u end h quiet leads a p) in
              (w.0, serial_member w.0 w.1 (inl (entries_stuck a.t w.0 (map as_serial (outcomes a.t (keep_pending a.t h))) is)), w.2))),
        )

  pub refutes_back : (u : List Move) → Refutes (IsSerialHistory s) s u → Refutes Set s u
  refutes_back u r = record {
    end = r.end;
    history = r.history;
    leads = r.leads;
    holds = (r.holds.0, (λ good. r.holds.1 (good_back u r.end r.history r.leads good)));
  }
