-- Configurations suffice.
use Rattle.std.proofs.Common.{arith, ◌≡◌, ◌≢◌, ℕ, zero, suc, ◌+◌, ◌<◌, ◌≤◌, List, [], ◌∷◌, ◌++◌, length, Option, Some, None, slice_get, if◌then◌else◌, inl, inr, refl, sym, ap, ◌∙◌, subst}
use Rattle.std.specs.Prelude.{◌==◌, ◌↔◌, map}
use Rattle.std.proofs.lemmas.Bool.{cases_lt, lt-ltb, ne_eqb}
use Rattle.std.proofs.lemmas.Bool.Decides.{eqb_tells}
use Rattle.std.proofs.lemmas.List.{append_assoc, append-nil, length_push}
use Rattle.std.proofs.lemmas.Option.{same_Some, slice_get_past}
use Rattle.lu_machine.specs.declared.event.Event.{Event}
use Rattle.lu_machine.specs.declared.event.Event.TheVariants.{Call, Return}
use Rattle.lu_machine.specs.declared.event.Outcome.{Outcome}
use Rattle.lu_machine.specs.declared.event.Outcome.TheVariants.{Ret, Trap}
use Rattle.lu_history.specs.declared.operation.OpId.{OpId}
use Rattle.lu_history.specs.declared.serial.SerialOp.{SerialOp}
use Rattle.lu_history.specs.declared.serial.SerialOutcome.{SerialOutcome}
use Rattle.lu_history.specs.declared.serial.SerialOutcome.TheVariants.{Stuck}
use Rattle.lu_history.specs.Histories.{calls, outcomes}
use Rattle.lu_history.specs.Parts.{as_serial, keep_pending}
use Rattle.lu_history.proofs.Events.{last_at, same_number}
use Rattle.lu_history.proofs.Keeping.{calls_more, calls_same, outcomes_more, outcomes_same}
use Rattle.lu_history.proofs.PartEntries.{ltb_false, part_returned}
use Rattle.lu_serial.specs.Serial.{stuck_of}
use Rattle.lu_witness.specs.Witnesses.{IsWitness, entries}
use Rattle.lu_witness.specs.Search.{next_of}
use Rattle.lu_witness.proofs.Entries.{entries-append, entries_own}
use Rattle.lu_linearization.specs.Linearizations.{ComesNext, ExtendsBy, IsPrefixClosed, HasOnlyCalled, HasOnlyReturned, HasSequentialThreads, IsLinearization, HasOutcome}
use Rattle.lu_linearization.specs.Configurations.{AreAlikeEvents, HaveSameConfigurations, AreSame, ConfigurationsAfterCall, CompleteHasConfiguration, Configuration, FirstIsOf, IsAutomaton, IsConfiguration, ConfigurationsSuffice, InitialConfigurations, PendingAfterEvent, ConfigurationsAfterEffect, TakesEffect, AllTakeEffect, Reads, ConfigurationsAfterReturn, Returns, StuckHasConfiguration, pending_call, effects_in}
use Rattle.lu_linearization.proofs.Sequential.{front, in_turn, last}
use Rattle.lu_linearization.proofs.Standing.{fewer_entries}
use Rattle.lu_linearization.proofs.Goes.{call_goes_on, call_keeps, put_goes_on, return_goes_on}
use Rattle.lu_linearization.proofs.Ended.{HasReturnedOnes, as_many, complete_is_witness, has_returned, parts_tell, returned_ones, stuck_ends, stuck_is_witness}

none_past : {A : Type 0} (xs : List A) (i : ℕ) → slice_get xs i ≡ None → length xs ≤ i
none_past [] i is = omega arith
none_past (x ∷ xs) zero is = absurd (cc)
none_past (x ∷ xs) (suc i) is = let rest = none_past xs i is in omega (arith, rest)

-- ---- one entry more

own_push : (q : List SerialOp) (op : SerialOp) → entries op.thread (q ++ op ∷ []) ≡ entries op.thread q ++ op.outcome ∷ []
own_push q op = entries-append op.thread q (op ∷ []) ∙ ap (λ x. entries op.thread q ++ x) (entries_own op [])

other_push : (q : List SerialOp) (op : SerialOp) (t : ℕ) → t ≢ op.thread → entries t (q ++ op ∷ []) ≡ entries t q
other_push q op t other =
    entries-append t q (op ∷ [])
    ∙ (ap (λ b. entries t q ++ (if b then op.outcome ∷ [] else [])) (ne_eqb op.thread t (λ same. other (sym same))) ∙ append-nil (entries t q))

-- ---- what is pending

module _ {C : Type 0} (call : OpId → C) where
  waits_where : (h : List Event) (t : ℕ) → length (outcomes t h) < calls t h → pending_call call h t ≡ Some (call (record { t = t; k = length (outcomes t h) }))
  waits_where h t lt = ap (λ b. if b then Some (call (record { t = t; k = length (outcomes t h) })) else None) (lt-ltb (length (outcomes t h)) (calls t h) lt)

  none_where : (h : List Event) (t : ℕ) → calls t h ≤ length (outcomes t h) → pending_call call h t ≡ None
  none_where h t le = ap (λ b. if b then Some (call (record { t = t; k = length (outcomes t h) })) else None) (ltb_false (length (outcomes t h)) (calls t h) le)

  pub waiting_tells : (h : List Event) (t : ℕ) (c : C) → pending_call call h t ≡ Some c → (length (outcomes t h) < calls t h) × (call (record { t = t; k = length (outcomes t h) }) ≡ c)
  waiting_tells h t c is = elim (cases_lt (length (outcomes t h)) (calls t h)) as (λ _. (length (outcomes t h) < calls t h) × (call (record { t = t; k = length (outcomes t h) }) ≡ c)) [
    | inl lt ↦ (lt, same_Some (call (record { t = t; k = length (outcomes t h) })) c (sym (waits_where h t lt) ∙ is))
    | inr le ↦ (let none = none_where h t le in absurd (cc))
  ]

  -- it hangs on the numbers of calls and of outcomes alone
  same_pending : (h g : List Event) (t : ℕ) → calls t h ≡ calls t g → length (outcomes t h) ≡ length (outcomes t g) → pending_call call h t ≡ pending_call call g t
  same_pending h g t some many =
      elim (cases_lt (length (outcomes t h)) (calls t h)) as (λ _. pending_call call h t ≡ pending_call call g t) [
        | inl lt ↦
            waits_where h t lt
            ∙ (ap (λ k. Some (call (record { t = t; k = k }))) many ∙ sym (waits_where g t (omega (arith, lt, some, many))))
        | inr le ↦ none_where h t le ∙ sym (none_where g t (omega (arith, le, some, many)))
      ]

  call_pending : (h : List Event) (a : OpId) (t : ℕ) → HasSequentialThreads (h ++ Call a.t a.k ∷ []) → pending_call call (h ++ Call a.t a.k ∷ []) t ≡ (if a.t == t then Some (call a) else pending_call call h t)
  call_pending h a t next =
      let number = last h [] (Call a.t a.k) next in
      let more = calls_more t a.t a.k h in
      let same = ap length (outcomes_same t a.t a.k h) in
      elim (eqb_tells a.t t) as (λ _. pending_call call (h ++ Call a.t a.k ∷ []) t ≡ (if a.t == t then Some (call a) else pending_call call h t)) [
        | inl own ↦
            (let one : calls t (h ++ Call a.t a.k ∷ []) ≡ calls t h + 1 = more ∙ ap (λ b. calls t h + (if b then 1 else 0)) own.0 in
            let some : calls t h ≡ a.k = subst (λ u. calls u h ≡ a.k) own.1 number.0 in
            let many : length (outcomes t h) ≡ a.k = subst (λ u. length (outcomes u h) ≡ a.k) own.1 number.1 in
            waits_where (h ++ Call a.t a.k ∷ []) t (omega (arith, one, some, many, same))
            ∙ (ap (λ k. Some (call (record { t = t; k = k }))) (same ∙ many)
            ∙ (ap (λ u. Some (call (record { t = u; k = a.k }))) (sym own.1)
            ∙ sym (ap (λ b. if b then Some (call a) else pending_call call h t) own.0))))
        | inr other ↦
            (let none : calls t (h ++ Call a.t a.k ∷ []) ≡ calls t h + 0 = more ∙ ap (λ b. calls t h + (if b then 1 else 0)) other.0 in
            same_pending (h ++ Call a.t a.k ∷ []) h t (omega (arith, none)) same
            ∙ sym (ap (λ b. if b then Some (call a) else pending_call call h t) other.0))
      ]

  return_pending : (h : List Event) (a : OpId) (t : ℕ) (o : Outcome) → HasSequentialThreads (h ++ Return a.t a.k o ∷ []) → pending_call call (h ++ Return a.t a.k o ∷ []) t ≡ (if a.t == t then None else pending_call call h t)
  return_pending h a t o next =
      let number = last h [] (Return a.t a.k o) next in
      let same = calls_same t a.t a.k o h in
      let more = outcomes_more t a.t a.k o h in
      elim (eqb_tells a.t t) as (λ _. pending_call call (h ++ Return a.t a.k o ∷ []) t ≡ (if a.t == t then None else pending_call call h t)) [
        | inl own ↦
            (let one : length (outcomes t (h ++ Return a.t a.k o ∷ [])) ≡ length (outcomes t h) + 1 = more ∙ ap (λ b. length (outcomes t h) + (if b then 1 else 0)) own.0 in
            let some : calls t h ≡ a.k + 1 = subst (λ u. calls u h ≡ a.k + 1) own.1 number.0 in
            let many : length (outcomes t h) ≡ a.k = subst (λ u. length (outcomes u h) ≡ a.k) own.1 number.1 in
            none_where (h ++ Return a.t a.k o ∷ []) t (omega (arith, one, some, many, same))
            ∙ sym (ap (λ b. if b then None else pending_call call h t) own.0))
        | inr other ↦
            (let none : length (outcomes t (h ++ Return a.t a.k o ∷ [])) ≡ length (outcomes t h) + 0 = more ∙ ap (λ b. length (outcomes t h) + (if b then 1 else 0)) other.0 in
            same_pending (h ++ Return a.t a.k o ∷ []) h t same (omega (arith, none))
            ∙ sym (ap (λ b. if b then None else pending_call call h t) other.0))
      ]

  pub pending_goes_on : PendingAfterEvent call
  pending_goes_on h a t = (call_pending h a t, λ o. return_pending h a t o)

-- ---- one event more

module _ {X : Type 0} (LeadsTo : List SerialOp → X → Type 0) where
  -- the configuration of a list that leads to this state
  abbrev at : List SerialOp → List Event → X → Configuration X
  at q h x = record { state = x; effects = effects_in q h }

  configured : (q : List SerialOp) (h : List Event) (c : Configuration X) → IsLinearization (Reads LeadsTo) q h → LeadsTo q c.state → ((t : ℕ) → effects_in q h t ≡ c.effects t) → IsConfiguration LeadsTo h c
  configured q h c line leads effects = record { q = q; linearizes = line; leads = leads; effects = effects }

  same_configured : (h : List Event) (b c : Configuration X) → AreSame b c → IsConfiguration LeadsTo h b → IsConfiguration LeadsTo h c
  same_configured h b c same is = configured is.q h c is.linearizes (subst (λ x. LeadsTo is.q x) same.state is.leads) (λ t. is.effects t ∙ same.effects t)

  -- what has returned counts, and no more
  in_more : (q : List SerialOp) (h g : List Event) (t : ℕ) → length (outcomes t h) ≡ length (outcomes t g) → effects_in q h t ≡ effects_in q g t
  in_more q h g t same = ap (λ n. slice_get (entries t q) n) same

  pub return_is_configured : ConfigurationsAfterReturn LeadsTo
  return_is_configured h a o c next = (
    (λ is.
        let both = (return_goes_on (Reads LeadsTo) is.q h a o).0 is.linearizes in (
          at is.q h c.state,
          configured is.q h (at is.q h c.state) both.0 is.leads (λ t. refl),
          record {
            state = refl;
            had = ap (λ n. slice_get (entries a.t is.q) n) number.1 ∙ both.1;
            gone =
                (let few = is.linearizes.called a.t in
                let same = calls_same a.t a.t a.k o h in
                sym (is.effects a.t) ∙ slice_get_past (entries a.t is.q) (length (outcomes a.t (h ++ Return a.t a.k o ∷ []))) (omega (arith, few, same, number.0, number.1, one)));
            others = λ u other. sym (is.effects u) ∙ in_more is.q (h ++ Return a.t a.k o ∷ []) h u (others u other);
          },
        )),
    (λ (b, is, back).
        let effects : HasOutcome is.q a (as_serial o) = ap (λ n. slice_get (entries a.t is.q) n) (sym number.1) ∙ (is.effects a.t ∙ back.had) in
        let line = (return_goes_on (Reads LeadsTo) is.q h a o).1 (is.linearizes, effects) in
        configured is.q (h ++ Return a.t a.k o ∷ []) c line (subst (λ x. LeadsTo is.q x) back.state is.leads) (λ u.
        elim (eqb_tells u a.t) as (λ _. effects_in is.q (h ++ Return a.t a.k o ∷ []) u ≡ c.effects u) [
          | inl own ↦
              (let few = line.called a.t in
              let same = calls_same a.t a.t a.k o h in
              subst (λ v. effects_in is.q (h ++ Return a.t a.k o ∷ []) v ≡ c.effects v) (sym own.1)
              (slice_get_past (entries a.t is.q) (length (outcomes a.t (h ++ Return a.t a.k o ∷ []))) (omega (arith, few, same, number.0, number.1, one)) ∙ sym back.gone))
          | inr other ↦ in_more is.q (h ++ Return a.t a.k o ∷ []) h u (others u other.1) ∙ (is.effects u ∙ sym (back.others u other.1))
        ])),
  )
    where
      number : ComesNext h (Return a.t a.k o)
      number = last h [] (Return a.t a.k o) next

      one : length (outcomes a.t (h ++ Return a.t a.k o ∷ [])) ≡ length (outcomes a.t h) + 1
      one = outcomes_more a.t a.t a.k o h ∙ ap (λ b. length (outcomes a.t h) + (if b then 1 else 0)) (same_number a.t)

      others : (u : ℕ) → u ≢ a.t → length (outcomes u (h ++ Return a.t a.k o ∷ [])) ≡ length (outcomes u h)
      others u other =
          let none : length (outcomes u (h ++ Return a.t a.k o ∷ [])) ≡ length (outcomes u h) + 0 = outcomes_more u a.t a.k o h ∙ ap (λ b. length (outcomes u h) + (if b then 1 else 0)) (ne_eqb a.t u (λ same. other (sym same))) in
          omega (arith, none)

  -- before any event nothing has taken effect
  nothing : (q : List SerialOp) → HasOnlyCalled q [] → q ≡ []
  nothing [] none = refl
  nothing (op ∷ q) none =
      let few = none op.thread in
      let some = ap length (entries_own op q) in
      absurd (omega (arith, few, some))

  pub nothing_is_configured : InitialConfigurations LeadsTo
  nothing_is_configured c = (
    (λ is. (
      subst (λ q. LeadsTo q c.state) (nothing is.q is.linearizes.called) is.leads,
      λ t. sym (is.effects t) ∙ ap (λ q. effects_in q [] t) (nothing is.q is.linearizes.called),
    )),
    (λ both. configured [] [] c
        (record { member = (c.state, both.0); called = λ t. omega arith; outcomes = λ i a o there. absurd (cc); precedence = λ i a there. absurd (let e = there.1 in cc) })
        both.0
        (λ t. sym (both.1 t))),
  )

module _ {X C : Type 0} (LeadsTo : List SerialOp → X → Type 0) (Next : X → C → SerialOutcome → X → Type 0) (call : OpId → C) where
  puts_same : (pending_calls : ℕ → Option C) (r : List SerialOp) (b c d : Configuration X) → AllTakeEffect Next pending_calls r b c → AreSame c d → AllTakeEffect Next pending_calls r b d
  puts_same pending_calls [] b c d puts same = record { state = puts.state ∙ same.state; effects = λ t. puts.effects t ∙ same.effects t }
  puts_same pending_calls (op ∷ r) b c d (e, first, rest) same = (e, first, puts_same pending_calls r e c d rest same)

  pub puts_waits : (pending_calls others : ℕ → Option C) → ((t : ℕ) → pending_calls t ≡ others t) → (r : List SerialOp) (b c : Configuration X) → AllTakeEffect Next pending_calls r b c → AllTakeEffect Next others r b c
  puts_waits pending_calls others same [] b c puts = puts
  puts_waits pending_calls others same (op ∷ r) b c (d, first, rest) = (
    d,
    record {
      call = first.call;
      is_pending = sym (same op.thread) ∙ first.is_pending;
      absent = first.absent;
      leads = first.leads;
      effects = first.effects;
      others = first.others;
    },
    puts_waits pending_calls others same r d c rest,
  )

  module _ (auto : IsAutomaton LeadsTo Next call) where
    pub reads_beginnings : IsPrefixClosed (Reads LeadsTo)
    reads_beginnings p [] reads = subst (Reads LeadsTo) (append-nil p) reads
    reads_beginnings p (op ∷ q) reads =
        let more = reads_beginnings (p ++ op ∷ []) q (subst (Reads LeadsTo) (sym (append_assoc p (op ∷ []) q)) reads) in
        let first = (auto p op more.0).0 more.1 in
        (first.0, first.1)

    module _ (h : List Event) (is : HasSequentialThreads h) where
      -- an entry more of a pending call puts it
      put_at : (p : List SerialOp) (op : SerialOp) (x y : X) → length (outcomes op.thread h) ≤ length (entries op.thread p) → length (entries op.thread p) < calls op.thread h → Next x (call (next_of p op)) op.outcome y → TakesEffect Next (pending_call call h) op (at LeadsTo p h x) (at LeadsTo (p ++ op ∷ []) h y)
      put_at p op x y had lt next =
          let turn = (in_turn h is op.thread).open_one in
          let number : length (outcomes op.thread h) ≡ length (entries op.thread p) = omega (arith, had, lt, turn) in
          record {
            call = call (next_of p op);
            is_pending = waits_where call h op.thread (omega (arith, number, lt)) ∙ ap (λ k. Some (call (record { t = op.thread; k = k }))) number;
            absent = slice_get_past (entries op.thread p) (length (outcomes op.thread h)) (omega (arith, number));
            leads = next;
            effects =
                ap (λ n. slice_get (entries op.thread (p ++ op ∷ [])) n) number
                ∙ (ap (λ x. slice_get x (length (entries op.thread p))) (own_push p op) ∙ last_at (entries op.thread p) [] op.outcome);
            others = λ t other. ap (λ x. slice_get x (length (outcomes t h))) (other_push p op t other);
          }

      puts_from : (r p : List SerialOp) (y : X) → ((t : ℕ) → length (outcomes t h) ≤ length (entries t p)) → HasOnlyCalled (p ++ r) h → LeadsTo (p ++ r) y → (x : X) × LeadsTo p x × AllTakeEffect Next (pending_call call h) r (at LeadsTo p h x) (at LeadsTo (p ++ r) h y)
      puts_from [] p y had called leads = (
        y,
        subst (λ q. LeadsTo q y) (append-nil p) leads,
        record { state = refl; effects = λ t. ap (λ q. effects_in q h t) (sym (append-nil p)) },
      )
      puts_from (op ∷ r) p y had called leads =
          let whole : (p ++ op ∷ []) ++ r ≡ p ++ op ∷ r = append_assoc p (op ∷ []) r in
          let rest = puts_from r (p ++ op ∷ []) y (λ t. (let old = had t in let more = fewer_entries p (op ∷ []) t in omega (arith, old, more))) (subst (λ q. HasOnlyCalled q h) (sym whole) called) (subst (λ q. LeadsTo q y) (sym whole) leads) in
          let first = (auto p op rest.0).0 rest.1 in
          let some = called op.thread in
          let some_front = fewer_entries (p ++ op ∷ []) r op.thread in
          let here : length (entries op.thread ((p ++ op ∷ []) ++ r)) ≡ length (entries op.thread (p ++ op ∷ r)) = ap (λ q. length (entries op.thread q)) whole in
          let long = ap length (own_push p op) ∙ length_push (entries op.thread p) op.outcome in (
            first.0,
            first.1,
            (
              at LeadsTo (p ++ op ∷ []) h rest.0,
              put_at p op first.0 rest.0 (had op.thread) (omega (arith, some, some_front, here, long)) first.2,
              subst (λ q. AllTakeEffect Next (pending_call call h) r (at LeadsTo (p ++ op ∷ []) h rest.0) (at LeadsTo q h y)) whole rest.2,
            ),
          )

    pub put_is_configured : (h : List Event) (op : SerialOp) (b c : Configuration X) → HasSequentialThreads h → IsConfiguration LeadsTo h b → TakesEffect Next (pending_call call h) op b c → IsConfiguration LeadsTo h c
    put_is_configured h op b c is line take_effect =
        let pending_calls = waiting_tells call h op.thread take_effect.call take_effect.is_pending in
        let few = none_past (entries op.thread line.q) (length (outcomes op.thread h)) (line.effects op.thread ∙ take_effect.absent) in
        let enough = has_returned line.q h is line.linearizes.outcomes op.thread in
        let number : length (entries op.thread line.q) ≡ length (outcomes op.thread h) = omega (arith, few, enough) in
        let made : call (next_of line.q op) ≡ take_effect.call = ap (λ k. call (record { t = op.thread; k = k })) number ∙ pending_calls.1 in
        let leads : LeadsTo (line.q ++ op ∷ []) c.state = (auto line.q op c.state).1 (b.state, line.leads, subst (λ m. Next b.state m op.outcome c.state) (sym made) take_effect.leads) in
        configured LeadsTo (line.q ++ op ∷ []) h c
        ((put_goes_on (Reads LeadsTo) line.q h op line.linearizes (omega (arith, number, pending_calls.0))).1 (c.state, leads))
        leads
        (λ t. elim (eqb_tells t op.thread) as (λ _. effects_in (line.q ++ op ∷ []) h t ≡ c.effects t) [
          | inl own ↦
              subst (λ u. effects_in (line.q ++ op ∷ []) h u ≡ c.effects u) (sym own.1)
              (ap (λ n. slice_get (entries op.thread (line.q ++ op ∷ [])) n) (sym number)
              ∙ (ap (λ x. slice_get x (length (entries op.thread line.q))) (own_push line.q op)
              ∙ (last_at (entries op.thread line.q) [] op.outcome ∙ sym take_effect.effects)))
          | inr other ↦ ap (λ x. slice_get x (length (outcomes t h))) (other_push line.q op t other.1) ∙ (line.effects t ∙ sym (take_effect.others t other.1))
        ])

    puts_configured : (h : List Event) → HasSequentialThreads h → (r : List SerialOp) (b c : Configuration X) → IsConfiguration LeadsTo h b → AllTakeEffect Next (pending_call call h) r b c → IsConfiguration LeadsTo h c
    puts_configured h is [] b c line puts = same_configured LeadsTo h b c puts line
    puts_configured h is (op ∷ r) b c line (d, first, rest) = puts_configured h is r d c (put_is_configured h op b d is line first) rest

    module _ (h : List Event) (a : OpId) (c : Configuration X) (next : HasSequentialThreads (h ++ Call a.t a.k ∷ [])) where
      as_before : (q : List SerialOp) (t : ℕ) → effects_in q h t ≡ effects_in q (h ++ Call a.t a.k ∷ []) t
      as_before q t = in_more LeadsTo q h (h ++ Call a.t a.k ∷ []) t (sym (ap length (outcomes_same t a.t a.k h)))

      From : Type 0
      From = (b : Configuration X) × (r : List SerialOp) × IsConfiguration LeadsTo h b × FirstIsOf a.t r × AllTakeEffect Next (pending_call call (h ++ Call a.t a.k ∷ [])) r b c

      module _ (line : IsConfiguration LeadsTo (h ++ Call a.t a.k ∷ []) c) where
        was_there : IsLinearization (Reads LeadsTo) line.q h → From
        unfolding From
        was_there before = (
          at LeadsTo line.q h c.state,
          [],
          configured LeadsTo line.q h (at LeadsTo line.q h c.state) before line.leads (λ t. refl),
          tt,
          record { state = refl; effects = λ t. as_before line.q t ∙ line.effects t },
        )

        was_put : ExtendsBy (Reads LeadsTo) line.q h a → From
        unfolding From
        was_put on =
            let whole = on.parts in
            let had : (t : ℕ) → length (outcomes t (h ++ Call a.t a.k ∷ [])) ≤ length (entries t on.before) =
            λ t. (let same = ap length (outcomes_same t a.t a.k h) in let enough = has_returned on.before h (front h (Call a.t a.k ∷ []) next) on.linearizes.outcomes t in omega (arith, same, enough)) in
            let start = puts_from (h ++ Call a.t a.k ∷ []) next (on.op ∷ on.after) on.before c.state had
            (subst (λ q. HasOnlyCalled q (h ++ Call a.t a.k ∷ [])) whole on.called)
            (subst (λ q. LeadsTo q c.state) whole line.leads) in (
              at LeadsTo on.before (h ++ Call a.t a.k ∷ []) start.0,
              on.op ∷ on.after,
              configured LeadsTo on.before h (at LeadsTo on.before (h ++ Call a.t a.k ∷ []) start.0) on.linearizes start.1 (λ t. as_before on.before t),
              ap (λ (o : OpId). o.t) on.first,
              puts_same (pending_call call (h ++ Call a.t a.k ∷ [])) (on.op ∷ on.after) (at LeadsTo on.before (h ++ Call a.t a.k ∷ []) start.0) (at LeadsTo (on.before ++ on.op ∷ on.after) (h ++ Call a.t a.k ∷ []) c.state) c start.2
                  (record { state = refl; effects = λ t. ap (λ q. effects_in q (h ++ Call a.t a.k ∷ []) t) (sym whole) ∙ line.effects t }),
            )

        came_from : From
        came_from = elim ((call_goes_on (Reads LeadsTo) reads_beginnings line.q h a next).0 line.linearizes) [
          | inl before ↦ was_there before
          | inr on ↦ was_put on
        ]

      leads_on : From → IsConfiguration LeadsTo (h ++ Call a.t a.k ∷ []) c
      unfolding From
      leads_on (b, r, line, first, puts) =
          puts_configured (h ++ Call a.t a.k ∷ []) next r b c
          (configured LeadsTo line.q (h ++ Call a.t a.k ∷ []) b (call_keeps (Reads LeadsTo) line.q h a line.linearizes) line.leads (λ t. sym (as_before line.q t) ∙ line.effects t))
          puts

      pub call_configured : IsConfiguration LeadsTo (h ++ Call a.t a.k ∷ []) c ↔ ((b : Configuration X) × (r : List SerialOp) × IsConfiguration LeadsTo h b × FirstIsOf a.t r × AllTakeEffect Next (pending_call call (h ++ Call a.t a.k ∷ [])) r b c)
      unfolding From
      call_configured = (came_from, leads_on)

  pub put_law : ConfigurationsAfterEffect LeadsTo Next call
  put_law auto h op b c is line take_effect = put_is_configured auto h op b c is line take_effect

  pub call_law : ConfigurationsAfterCall LeadsTo Next call
  call_law auto h a c next = call_configured auto h a c next

  -- ---- two histories

  turned : (h g : List Event) → HaveSameConfigurations LeadsTo call h g → HaveSameConfigurations LeadsTo call g h
  turned h g alike = record {
    pending = λ t. sym (alike.pending t);
    configurations = λ c. ((alike.configurations c).1, (alike.configurations c).0);
  }

  module _ (auto : IsAutomaton LeadsTo Next call) where
    call_waits : (h g : List Event) (a b : OpId) → HasSequentialThreads (h ++ Call a.t a.k ∷ []) → HasSequentialThreads (g ++ Call b.t b.k ∷ []) → a.t ≡ b.t → call a ≡ call b → HaveSameConfigurations LeadsTo call h g → (t : ℕ) → pending_call call (h ++ Call a.t a.k ∷ []) t ≡ pending_call call (g ++ Call b.t b.k ∷ []) t
    call_waits h g a b first second thread same alike t =
        call_pending call h a t first
        ∙ (ap (λ x. if a.t == t then Some (call a) else x) (alike.pending t)
        ∙ (ap (λ u. if u == t then Some (call a) else pending_call call g t) thread
        ∙ (ap (λ x. if b.t == t then Some x else pending_call call g t) same
        ∙ sym (call_pending call g b t second))))

    call_over : (h g : List Event) (a b : OpId) → HasSequentialThreads (h ++ Call a.t a.k ∷ []) → HasSequentialThreads (g ++ Call b.t b.k ∷ []) → a.t ≡ b.t → call a ≡ call b → HaveSameConfigurations LeadsTo call h g → (c : Configuration X) → IsConfiguration LeadsTo (h ++ Call a.t a.k ∷ []) c → IsConfiguration LeadsTo (g ++ Call b.t b.k ∷ []) c
    call_over h g a b first second thread same alike c is =
        let from = (call_configured auto h a c first).0 is in
        (call_configured auto g b c second).1 (
          from.0,
          from.1,
          (alike.configurations from.0).0 from.2,
          subst (λ u. FirstIsOf u from.1) thread from.3,
          puts_waits (pending_call call (h ++ Call a.t a.k ∷ [])) (pending_call call (g ++ Call b.t b.k ∷ [])) (call_waits h g a b first second thread same alike) from.1 from.0 c from.4,
        )

    return_waits : (h g : List Event) (a b : OpId) (o p : Outcome) → HasSequentialThreads (h ++ Return a.t a.k o ∷ []) → HasSequentialThreads (g ++ Return b.t b.k p ∷ []) → a.t ≡ b.t → HaveSameConfigurations LeadsTo call h g → (t : ℕ) → pending_call call (h ++ Return a.t a.k o ∷ []) t ≡ pending_call call (g ++ Return b.t b.k p ∷ []) t
    return_waits h g a b o p first second thread alike t =
        return_pending call h a t o first
        ∙ (ap (λ x. if a.t == t then None else x) (alike.pending t)
        ∙ (ap (λ u. if u == t then None else pending_call call g t) thread
        ∙ sym (return_pending call g b t p second)))

    return_over : (h g : List Event) (a b : OpId) (o p : Outcome) → HasSequentialThreads (h ++ Return a.t a.k o ∷ []) → HasSequentialThreads (g ++ Return b.t b.k p ∷ []) → a.t ≡ b.t → o ≡ p → HaveSameConfigurations LeadsTo call h g → (c : Configuration X) → IsConfiguration LeadsTo (h ++ Return a.t a.k o ∷ []) c → IsConfiguration LeadsTo (g ++ Return b.t b.k p ∷ []) c
    return_over h g a b o p first second thread same alike c is =
        let from = (return_is_configured LeadsTo h a o c first).0 is in
        let back : Returns a.t (as_serial o) from.0 c = from.2 in
        (return_is_configured LeadsTo g b p c second).1 (
          from.0,
          (alike.configurations from.0).0 from.1,
          subst (λ u. Returns u (as_serial p) from.0 c) thread (subst (λ w. Returns a.t (as_serial w) from.0 c) same back),
        )

    pub monitor_goes_on : (h g : List Event) (e f : Event) → HasSequentialThreads (h ++ e ∷ []) → HasSequentialThreads (g ++ f ∷ []) → AreAlikeEvents call e f → HaveSameConfigurations LeadsTo call h g → HaveSameConfigurations LeadsTo call (h ++ e ∷ []) (g ++ f ∷ [])
    monitor_goes_on h g (Call t k) (Call u l) first second same alike =
        let a : OpId = record { t = t; k = k } in
        let b : OpId = record { t = u; k = l } in
        record {
          pending = call_waits h g a b first second same.0 same.1 alike;
          configurations = λ c. (
            call_over h g a b first second same.0 same.1 alike c,
            call_over g h b a second first (sym same.0) (sym same.1) (turned h g alike) c,
          );
        }
    monitor_goes_on h g (Call t k) (Return u l p) first second same alike = absurd same
    monitor_goes_on h g (Return t k o) (Call u l) first second same alike = absurd same
    monitor_goes_on h g (Return t k o) (Return u l p) first second same alike =
        let a : OpId = record { t = t; k = k } in
        let b : OpId = record { t = u; k = l } in
        record {
          pending = return_waits h g a b o p first second same.0 alike;
          configurations = λ c. (
            return_over h g a b o p first second same.0 same.1 alike c,
            return_over g h b a p o second first (sym same.0) (sym same.1) (turned h g alike) c,
          );
        }

  pub monitor_law : ConfigurationsSuffice LeadsTo Next call
  monitor_law auto h g e f first second same alike = monitor_goes_on auto h g e f first second same alike

-- ---- histories that have ended

never_stuck : (os : List Outcome) (k : ℕ) → slice_get (map as_serial os) k ≡ Some Stuck → ⊥
never_stuck [] k is = cc
never_stuck (Ret n ∷ os) zero is = cc
never_stuck (Trap ∷ os) zero is = cc
never_stuck (o ∷ os) (suc k) is = never_stuck os k is

stuck_nowhere : (q : List SerialOp) (h : List Event) → HasReturnedOnes q h → (a : OpId) → HasOutcome q a Stuck → ⊥
stuck_nowhere q h ones a is = never_stuck (outcomes a.t h) a.k (ap (λ x. slice_get x a.k) (sym (ones a.t)) ∙ is)

module _ {X : Type 0} (Set : List SerialOp → Type 0) (LeadsTo : List SerialOp → X → Type 0) where
  pub complete_is_configured : CompleteHasConfiguration Set LeadsTo
  complete_is_configured reads h is all has = (
    (λ w.
        let ones : HasReturnedOnes w.0 h = λ t. w.2.parts t ∙ part_returned t h (let same = all t in omega (arith, same)) in
        let x = reads w.0 [] (subst Set (sym (append-nil w.0)) w.1) (stuck_nowhere w.0 h ones) in
        let line = (complete_is_witness (Reads LeadsTo) w.0 h is all).1 (x, w.2) in
        (at LeadsTo w.0 h x.0, configured LeadsTo w.0 h (at LeadsTo w.0 h x.0) line x.1 (λ t. refl))),
    (λ (c, line).
        let both = (complete_is_witness (Reads LeadsTo) line.q h is all).0 line.linearizes in
        let ones : HasReturnedOnes line.q h = λ t. both.1.parts t ∙ part_returned t h (let same = all t in omega (arith, same)) in
        (line.q, has line.q both.0 (λ t. as_many line.q h is ones t ∙ sym (all t)), both.1)),
  )

  module _ {C : Type 0} (IsStuckAt : X → C → Type 0) (call : OpId → C) where
    pub stuck_is_configured : StuckHasConfiguration Set LeadsTo IsStuckAt call
    stuck_is_configured reads serial h a is pending_calls has = (
      (λ w.
          let end = stuck_ends w.0 h a is pending_calls (serial w.0 w.1) w.2 in
          let q = end.0 in
          let member : Set (q ++ stuck_of a.t ∷ []) = subst Set end.1 w.1 in
          let witness : IsWitness (q ++ stuck_of a.t ∷ []) (keep_pending a.t h) = subst (λ x. IsWitness x (keep_pending a.t h)) end.1 w.2 in
          let ones = (parts_tell h a is pending_calls q).1 witness.parts in
          let read = reads q (stuck_of a.t ∷ []) member (stuck_nowhere q h ones) in
          let line = (stuck_is_witness (Reads LeadsTo) q h a is pending_calls).1 (read, witness) in
          let state = (has q (as_many q h is ones)).0 member in (
            at LeadsTo q h state.0,
            configured LeadsTo q h (at LeadsTo q h state.0) line.0 state.1 (λ t. refl),
            (λ t. slice_get_past (entries t q) (length (outcomes t h)) (line.1 t)),
            state.2,
          )),
      (λ (c, line, none, stuck).
          let only : HasOnlyReturned line.q h = λ t. none_past (entries t line.q) (length (outcomes t h)) (line.effects t ∙ none t) in
          let both = (stuck_is_witness (Reads LeadsTo) line.q h a is pending_calls).0 (line.linearizes, only) in
          let ones = returned_ones line.q h is line.linearizes.outcomes only in (
            line.q ++ stuck_of a.t ∷ [],
            (has line.q (as_many line.q h is ones)).1 (c.state, line.leads, stuck),
            both.1,
          )),
    )
