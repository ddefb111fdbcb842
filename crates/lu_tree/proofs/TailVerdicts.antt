-- What one end of what is left says of all.
use Rattle.std.proofs.Common.{◌≡◌, ℕ, zero, suc, ◌+◌, ◌<◌, ◌≤◌, ◌==◌, nat_lt, if◌then◌else◌, Bool, true, false, List, [], ◌∷◌, ◌++◌, Option, Some, None, map, slice_get, slice_set, get_or, length, take, drop, refl, sym, ◌∙◌, ap, subst, inl, inr, arith, append_assoc}
use Rattle.std.proofs.lemmas.Bool.{cases_eq, cases_lt, lt-ltb, ne_eqb}
use Rattle.std.proofs.lemmas.List.{append-nil, get_or-set_same, get_or-set_other, take_at}
use Rattle.std.proofs.lemmas.Option.{none-some, same_Some}
use Rattle.lu_test.specs.declared.schedule.Move.{Move}
use Rattle.lu_machine.specs.declared.event.Event.{Event}
use Rattle.lu_machine.specs.declared.event.Event.TheVariants.{Call, Return}
use Rattle.lu_machine.specs.Events.{IsEventInRange}
use Rattle.lu_machine.specs.States.{State, progress}
use Rattle.lu_machine.specs.Steps.{Step}
use Rattle.lu_machine.specs.Runs.{Leads, with_event}
use Rattle.lu_machine.specs.Ends.{IsComplete}
use Rattle.lu_machine.proofs.Paths.{with_event-append}
use Rattle.lu_machine.proofs.Progress.{Way, opens, goes_on, ends, step_goes}
use Rattle.lu_orders.specs.Solo.{IsTail, LastEvents, Sharing, last_events}
use Rattle.lu_orders.proofs.TailLaws.{tail_over, tail_step}
use Rattle.lu_history.specs.declared.operation.OpId.{OpId}
use Rattle.lu_history.specs.declared.serial.SerialOp.{SerialOp}
use Rattle.lu_history.specs.Histories.{IsCallAt, IsWellFormed, Precedes, calls, outcomes}
use Rattle.lu_history.specs.Parts.{as_serial, part}
use Rattle.lu_history.specs.Standing.{Agree}
use Rattle.lu_history.specs.declared.serial.SerialOutcome.{SerialOutcome}
use Rattle.lu_history.specs.declared.serial.SerialOutcome.TheVariants.{Stuck}
use Rattle.lu_history.proofs.Events.{calls-append, calls_call, in_turn, outcomes-append, pop_history, push_history, same_number}
use Rattle.lu_history.proofs.Following.{step_agrees, step_fits}
use Rattle.lu_history.proofs.PartEntries.{pending_tells}
use Rattle.lu_witness.specs.Witnesses.{HasWitness, IsWitness, entries}
use Rattle.lu_witness.proofs.Endings.{complete_alone}
use Rattle.lu_judge.specs.Returned.{returned}
use Rattle.lu_judge.proofs.Returning.{returned-append}
use Rattle.lu_tree.specs.declared.tail_question.Judging.{Judging}
use Rattle.lu_tree.specs.declared.tail_question.Judging.TheVariants.{OneVerdict, EveryOrder}
use Rattle.lu_tree.specs.Tails.{CompletesWell, HasEveryOrder, HasNoCall, StartsAfter}
use Rattle.lu_tree.proofs.ReturnOrders.{returned_entries, returned_witness}

-- the operations of thread t are called and return alike
record IsAlike (t : ℕ) (h k : List Event) : Type 0 where
  outs : outcomes t h ≡ outcomes t k
  called : calls t h ≡ calls t k

alike_same : (t : ℕ) (h k : List Event) → h ≡ k → IsAlike t h k
alike_same t h k e = rw e (record { outs = refl; called = refl })

alike_trans : (t : ℕ) (h k g : List Event) → IsAlike t h k → IsAlike t k g → IsAlike t h g
alike_trans t h k g a b = record { outs = a.outs ∙ b.outs; called = a.called ∙ b.called }

alike_back : (t : ℕ) (h k : List Event) → IsAlike t h k → IsAlike t k h
alike_back t h k a = record { outs = sym a.outs; called = sym a.called }

-- with one event more in front
alike_event : (t : ℕ) (event : Option Event) (h k : List Event) → IsAlike t h k → IsAlike t (with_event event h) (with_event event k)
alike_event t None h k a = a
alike_event t (Some (Call u j)) h k a = record { outs = a.outs; called = ap (λ x. if u == t then x + 1 else x) a.called }
alike_event t (Some (Return u j o)) h k a = record { outs = ap (λ x. if u == t then o ∷ x else x) a.outs; called = a.called }

-- another thread's event changes nothing
other_event : (t u : ℕ) (was now : ℕ × Bool) (event : Option Event) (h : List Event) → (u ≡ t → ⊥) → Way u was now event → IsAlike t (with_event event h) h
other_event t u was now event h other (opens k at is event_is) = rw event_is (record { outs = refl; called = ap (λ b. if b then calls t h + 1 else calls t h) (ne_eqb u t other) })
other_event t u was now event h other (goes_on k at is event_is) = rw event_is (record { outs = refl; called = refl })
other_event t u was now event h other (ends k o at is event_is) = rw event_is (record { outs = ap (λ b. if b then o ∷ outcomes t h else outcomes t h) (ne_eqb u t other); called = refl })

-- each end has the events that each thread has left, in their order
ending : (u : List Move) (s : State) (ns : List ℕ) (sharing : Sharing) (events_of : ℕ → LastEvents) → IsTail s ns sharing events_of → (end : State) (k : List Event) → Leads s u end k → IsComplete end → (t : ℕ) → IsAlike t k (last_events (events_of t) (get_or ns t 0))
ending [] s ns sharing events_of tail end k leads complete t =
    let here : IsComplete s = subst IsComplete leads.0 complete in
    let many = tail.many in
    let none : get_or ns t 0 ≡ 0 = elim (cases_lt t (length s.threads)) [ inl within ↦ tail_over s ns sharing events_of tail here t within | inr past ↦ past_none ns t (omega arith) ] in
    alike_same t k (last_events (events_of t) (get_or ns t 0)) (leads.1 ∙ sym (ap (last_events (events_of t)) none))
  where
    past_none : (ns : List ℕ) (t : ℕ) → length ns ≤ t → get_or ns t 0 ≡ 0
    past_none [] t past = refl
    past_none (n ∷ ns) zero past = absurd (omega arith)
    past_none (n ∷ ns) (suc t) past = past_none ns t (omega arith)
ending (m ∷ u) s ns sharing events_of tail end k leads complete t =
    let took = tail_step s ns sharing events_of tail m leads.0 leads.1 leads.3 in
    let left = slice_set ns m.thread took.n in
    let rest = ending u leads.0 left sharing events_of took.tail end leads.2 leads.4 complete t in
    let goes = step_goes s m leads.0 leads.1 leads.3 in
    rw leads.5 (elim (cases_eq m.thread t) [
      | inl itself ↦
          (let within : m.thread < length ns = within_some ns m.thread took.n took.had in
          let now : get_or left t 0 ≡ took.n = ap (λ x. get_or left x 0) (sym itself) ∙ get_or-set_same ns m.thread took.n 0 within in
          let had : get_or ns t 0 ≡ suc took.n = ap (λ x. get_or ns x 0) (sym itself) ∙ took.had in
          let event : leads.1 ≡ events_of t took.n = took.event_is ∙ ap (λ x. events_of x took.n) itself in
          let rest' : IsAlike t leads.2 (last_events (events_of t) took.n) = subst (λ n. IsAlike t leads.2 (last_events (events_of t) n)) now rest in
          let all : IsAlike t (with_event leads.1 leads.2) (with_event leads.1 (last_events (events_of t) took.n)) = alike_event t leads.1 leads.2 (last_events (events_of t) took.n) rest' in
          alike_trans t (with_event leads.1 leads.2) (with_event leads.1 (last_events (events_of t) took.n)) (last_events (events_of t) (get_or ns t 0)) all (alike_same t (with_event leads.1 (last_events (events_of t) took.n)) (last_events (events_of t) (get_or ns t 0)) (ap (λ e. with_event e (last_events (events_of t) took.n)) event ∙ sym (ap (last_events (events_of t)) had))))
      | inr other ↦
          (let kept : get_or left t 0 ≡ get_or ns t 0 = get_or-set_other ns m.thread t took.n 0 (λ e. other (sym e)) in
          alike_trans t (with_event leads.1 leads.2) leads.2 (last_events (events_of t) (get_or ns t 0)) (other_event t m.thread (get_or (progress s) m.thread (0, false)) goes.now leads.1 leads.2 other goes.way) (subst (λ n. IsAlike t leads.2 (last_events (events_of t) n)) kept rest))
    ])
  where
    within_some : (ns : List ℕ) (t n : ℕ) → get_or ns t 0 ≡ suc n → t < length ns
    within_some [] t n had = absurd (omega arith)
    within_some (x ∷ ns) zero n had = omega arith
    within_some (x ∷ ns) (suc t) n had = let rest = within_some ns t n had in omega arith

-- after h, two histories without calls in which each thread's operations return alike
module _ (h k g : List Event) (none : (t : ℕ) → calls t k ≡ 0) (alike : (t : ℕ) → IsAlike t k g) where
  part_same : (t : ℕ) → part t (h ++ k) ≡ part t (h ++ g)
  part_same t =
      let out : outcomes t (h ++ k) ≡ outcomes t (h ++ g) = outcomes-append t h k ∙ (ap (λ x. outcomes t h ++ x) (alike t).outs ∙ sym (outcomes-append t h g)) in
      let called : calls t (h ++ k) ≡ calls t (h ++ g) = calls-append t h k ∙ (ap (λ x. calls t h + x) (alike t).called ∙ sym (calls-append t h g)) in
      let stuck : List SerialOutcome = Stuck ∷ [] in
      ap (λ x. map as_serial x ++ (if nat_lt (length x) (calls t (h ++ k)) then stuck else [])) out
      ∙ ap (λ x. map as_serial (outcomes t (h ++ g)) ++ (if nat_lt (length (outcomes t (h ++ g))) x then stuck else [])) called

  no_call_at : (x : List Event) (j t c : ℕ) → calls t x ≡ 0 → slice_get x j ≡ Some (Call t c) → ⊥
  no_call_at [] j t c zero_calls at = cc
  no_call_at (Call u i ∷ x) zero t c zero_calls at =
      (let is : u ≡ t = cc in
      let one : calls t (Call u i ∷ x) ≡ calls t x + 1 = ap (λ b. if b then calls t x + 1 else calls t x) (ap (λ y. y == t) is ∙ same_number t) in
      omega arith)
  no_call_at (Call u i ∷ x) (suc j) t c zero_calls at = no_call_at x j t c (fewer (u == t) (calls t x) zero_calls) at
    where
      fewer : (b : Bool) (n : ℕ) → (if b then n + 1 else n) ≡ 0 → n ≡ 0
      fewer true n e = absurd (omega arith)
      fewer false n e = e
  no_call_at (Return u i o ∷ x) zero t c zero_calls at = cc
  no_call_at (Return u i o ∷ x) (suc j) t c zero_calls at = no_call_at x j t c zero_calls at

  front : (x y : List Event) (j : ℕ) → j < length x → slice_get (x ++ y) j ≡ slice_get x j
  front [] y j lt = absurd (omega arith)
  front (e ∷ x) y zero lt = refl
  front (e ∷ x) y (suc j) lt = front x y j (omega arith)

  back : (x y : List Event) (j : ℕ) (e : Event) → length x ≤ j → slice_get (x ++ y) j ≡ Some e → (i : ℕ) × (slice_get y i ≡ Some e)
  back [] y j e le at = (j, at)
  back (d ∷ x) y zero e le at = absurd (omega arith)
  back (d ∷ x) y (suc j) e le at = back x y j e (omega arith) at

  call_within : (j : ℕ) (b : OpId) → IsCallAt (h ++ k) j b → j < length h
  call_within j b at =
      elim (cases_lt j (length h)) [
        | inl lt ↦ lt
        | inr le ↦ (let in_k = back h k j (Call b.t b.k) le at in absurd (no_call_at k in_k.0 b.t b.k (none b.t) in_k.1))
      ]

  precedes_same : (a b : OpId) → Precedes (h ++ k) a b → Precedes (h ++ g) a b
  precedes_same a b p =
      let j : p.1 < length h = call_within p.1 b p.4 in
      let less : p.0 < p.1 = p.2 in
      let i : p.0 < length h = omega arith in
      let x : slice_get (h ++ k) p.0 ≡ slice_get (h ++ g) p.0 = front h k p.0 i ∙ sym (front h g p.0 i) in
      let y : slice_get (h ++ k) p.1 ≡ slice_get (h ++ g) p.1 = front h k p.1 j ∙ sym (front h g p.1 j) in
      (p.0, p.1, p.2, (p.3.0, sym x ∙ p.3.1), sym y ∙ p.4)

no_calls : (t : ℕ) (x : List Event) → HasNoCall x → calls t x ≡ 0
no_calls t [] none = refl
no_calls t (Call u j ∷ x) none = absurd none
no_calls t (Return u j o ∷ x) none = no_calls t x none

-- a witness of the one is one of the other
witness_same : (h k g : List Event) → HasNoCall k → ((t : ℕ) → IsAlike t k g) → (q : List SerialOp) → IsWitness q (h ++ k) → IsWitness q (h ++ g)
witness_same h k g none alike q w =
    let few : (t : ℕ) → calls t g ≡ 0 = λ t. sym (alike t).called ∙ no_calls t k none in
    record {
      parts = λ t. w.parts t ∙ part_same h k g (λ u. no_calls u k none) alike t;
      order = λ a b p. w.order a b (precedes_same h g k few (λ t. alike_back t k g (alike t)) a b p);
    }

-- no thread has more than 8 calls, and only 8 threads have any
record IsBounded (g : List Event) : Type 0 where
  few : (t : ℕ) → calls t g ≤ 8
  none : (t : ℕ) → 8 ≤ t → calls t g ≡ 0

in_range : (s : State) (m : Move) (new : State) (e : Event) (h rest : List Event) → Agree (progress s) h → Step s m new (Some e) → IsBounded (h ++ e ∷ rest) → IsEventInRange e
in_range s m new e h rest agree step bounded = let goes = step_goes s m new (Some e) step in by_way goes.now goes.way
  where
    by_way : (now : ℕ × Bool) → Way m.thread (get_or (progress s) m.thread (0, false)) now (Some e) → IsEventInRange e
    by_way now (opens k was is event_is) =
        let t = m.thread in
        let same : e ≡ Call t k = same_Some e (Call t k) event_is in
        let bound : IsBounded (h ++ Call t k ∷ rest) = subst (λ x. IsBounded (h ++ x ∷ rest)) same bounded in
        let done : calls t h ≡ k + 0 = agree.called t ∙ ap (λ (x : ℕ × Bool). x.0 + (if x.1 then 1 else 0)) was in
        let all : calls t (h ++ Call t k ∷ rest) ≡ calls t h + (calls t rest + 1) = calls-append t h (Call t k ∷ rest) ∙ ap (λ x. calls t h + x) (calls_call t k rest) in
        rw same (thread_below t (omega arith) bound, omega (arith, bound.few t))
      where
        thread_below : (t : ℕ) → 0 < calls t (h ++ Call m.thread k ∷ rest) → IsBounded (h ++ Call m.thread k ∷ rest) → t < 8
        thread_below t some bound = elim (cases_lt t 8) [ inl lt ↦ lt | inr past ↦ absurd (omega (arith, bound.none t past)) ]
    by_way now (goes_on k was is event_is) = absurd (none-some e (sym event_is))
    by_way now (ends k o was is event_is) =
        let t = m.thread in
        let same : e ≡ Return t k o = same_Some e (Return t k o) event_is in
        let bound : IsBounded (h ++ Return t k o ∷ rest) = subst (λ x. IsBounded (h ++ x ∷ rest)) same bounded in
        let done : calls t h ≡ k + 1 = agree.called t ∙ ap (λ (x : ℕ × Bool). x.0 + (if x.1 then 1 else 0)) was in
        let all : calls t (h ++ Return t k o ∷ rest) ≡ calls t h + calls t rest = calls-append t h (Return t k o ∷ rest) in
        rw same (thread_below t (omega arith) bound, omega (arith, bound.few t))
      where
        thread_below : (t : ℕ) → 0 < calls t (h ++ Return m.thread k o ∷ rest) → IsBounded (h ++ Return m.thread k o ∷ rest) → t < 8
        thread_below t some bound = elim (cases_lt t 8) [ inl lt ↦ lt | inr past ↦ absurd (omega (arith, bound.none t past)) ]

-- a history goes on well-formed, as the machine does
record GoesWell (s : State) (h : List Event) : Type 0 where
  agree : Agree (progress s) h
  well : IsWellFormed h

leads_well : (u : List Move) (s : State) (h : List Event) (end : State) (k : List Event) → GoesWell s h → Leads s u end k → IsBounded (h ++ k) → GoesWell end (h ++ k)
leads_well [] s h end k good leads bounded = rw (leads.0, leads.1, append-nil) good
leads_well (m ∷ u) s h end k good leads bounded =
    let next = leads.0 in
    let event = leads.1 in
    let rest = leads.2 in
    let joined : (h ++ with_event event []) ++ rest ≡ h ++ k = append_assoc h (with_event event []) rest ∙ (ap (λ x. h ++ x) (with_event-append event [] rest) ∙ ap (λ x. h ++ x) (sym leads.5)) in
    let agree = step_agrees s m next event h good.agree leads.3 in
    let well : IsWellFormed (h ++ with_event event []) = by_event event leads.3 (subst (λ x. IsBounded (h ++ x)) leads.5 bounded) in
    subst (GoesWell end) joined (leads_well u next (h ++ with_event event []) end rest (record { agree = agree; well = well }) leads.4 (subst IsBounded (sym joined) bounded))
  where
    by_event : (event : Option Event) → Step s m leads.0 event → IsBounded (h ++ with_event event leads.2) → IsWellFormed (h ++ with_event event [])
    by_event None step bounded = rw (append-nil h) good.well
    by_event (Some e) step bounded = push_history h e good.well (step_fits s m leads.0 e h good.agree step (in_range s m leads.0 e h leads.2 good.agree step bounded))

-- all calls have returned where a schedule is complete
all_returned : (s : State) (h : List Event) → GoesWell s h → IsComplete s → (t : ℕ) → calls t h ≤ length (outcomes t h)
all_returned s h good complete t =
    elim (cases_lt (length (outcomes t h)) (calls t h)) [
      | inl waits ↦ (let found = (pending_tells h good.well t).0 (lt-ltb (length (outcomes t h)) (calls t h) waits) in absurd (complete_alone s h good.agree good.well complete (record { t = t; k = found.0 }) found.1))
      | inr all ↦ all
    ]

drop_at : {A : Type 0} (xs ys : List A) → drop (length xs) (xs ++ ys) ≡ ys
drop_at [] ys = refl
drop_at (x ∷ xs) ys = drop_at xs ys

module _ (Set : List SerialOp → Type 0) (s : State) (h : List Event) (agree : Agree (progress s) h) where
  -- where the set has every order, each history has a witness: its operations in the order in which they return
  orders_serve : (k g : List Event) (u : List Move) (end : State) → IsWellFormed (h ++ k) → HasEveryOrder Set (returned h) (returned k) → ((t : ℕ) → IsAlike t k g) → Leads s u end g → IsComplete end → HasWitness Set (h ++ g)
  orders_serve k g u end well all alike leads complete =
      let called : (t : ℕ) → calls t (h ++ g) ≡ calls t (h ++ k) = λ t. calls-append t h g ∙ (ap (λ x. calls t h + x) (sym (alike t).called) ∙ sym (calls-append t h k)) in
      let bounded : IsBounded (h ++ g) = record {
        few = λ t. (let turn = in_turn (h ++ k) well t in omega (arith, turn.few, called t));
        none = λ t past. called t ∙ (in_turn (h ++ k) well t).none past;
      } in
      let good = leads_well u s h end g (record { agree = agree; well = pop_history h k well }) leads bounded in
      let own : (t : ℕ) → entries t (returned g) ≡ entries t (returned k) = λ t. returned_entries t g ∙ (ap (map as_serial) (sym (alike t).outs) ∙ sym (returned_entries t k)) in
      (returned (h ++ g), rw (returned-append h g) (all (returned g) own), returned_witness (h ++ g) good.well (all_returned end (h ++ g) good complete))

  module _ (ns : List ℕ) (sharing : Sharing) (events_of : ℕ → LastEvents) (tail : IsTail s ns sharing events_of) (v : List Move) (b : State) (g : List Event) (leads : Leads s v b g) (complete : IsComplete b) where
    -- so one end that is judged well tells that each has a witness
    pub one_for_all : (judging : Judging) → StartsAfter judging h → CompletesWell Set judging s h → HasWitness Set (h ++ g)
    one_for_all judging behind one = by_judging judging behind one
      where
        all_alike : (u : List Move) (end : State) (k : List Event) → Leads s u end k → IsComplete end → (t : ℕ) → IsAlike t k g
        all_alike u end k to over t =
            alike_trans t k (last_events (events_of t) (get_or ns t 0)) g (ending u s ns sharing events_of tail end k to over t) (alike_back t g (last_events (events_of t) (get_or ns t 0)) (ending v s ns sharing events_of tail b g leads complete t))

        by_judging : (judging : Judging) → StartsAfter judging h → CompletesWell Set judging s h → HasWitness Set (h ++ g)
        by_judging OneVerdict behind one =
            let alike = all_alike one.moves one.end one.events one.leads one.complete in
            (one.judged.0, one.judged.1, witness_same h one.events g (one.silent refl) alike one.judged.0 one.judged.2)
        by_judging (EveryOrder first) behind one =
            let k = one.events in
            let alike = all_alike one.moves one.end k one.leads one.complete in
            let w : take first (returned (h ++ k)) ≡ returned h = ap (λ n. take n (returned (h ++ k))) behind ∙ (ap (take (length (returned h))) (returned-append h k) ∙ take_at (returned h) (returned k) (length (returned h)) refl) in
            let ops : drop first (returned (h ++ k)) ≡ returned k = ap (λ n. drop n (returned (h ++ k))) behind ∙ (ap (drop (length (returned h))) (returned-append h k) ∙ drop_at (returned h) (returned k)) in
            let all : HasEveryOrder Set (returned h) (returned k) = subst (λ x. HasEveryOrder Set x (returned k)) w (subst (HasEveryOrder Set (take first (returned (h ++ k)))) ops one.judged.1) in
            orders_serve k g v b one.judged.0 all alike leads complete
