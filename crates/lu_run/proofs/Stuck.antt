-- Runs that are stuck, and runs whose calls have all returned.
use Rattle.std.proofs.Common.{Bool, true, false, arith, ◌≡◌, ℕ, suc, ◌<◌, ◌≤◌, List, [], ◌∷◌, ◌++◌, length, take, drop, Option, Some, None, slice_get, refl, sym, ◌∙◌, ap, subst, inl, inr}
use Rattle.std.specs.Prelude.{◌↔◌, IsSome, if◌then◌else◌}
use Rattle.std.proofs.lemmas.Bool.{cases_lt, lt-ltb}
use Rattle.std.proofs.lemmas.List.{length-append}
use Rattle.std.proofs.lemmas.Option.{same_Some, slice_get_within}
use Rattle.lu_component.specs.Component.{Component}
use Rattle.lu_test.specs.declared.matrix.Call.{Call as ACall}
use Rattle.lu_test.specs.Matrix.{calls_of}
use Rattle.lu_machine.specs.Starts.{IsStart}
use Rattle.lu_machine.specs.States.{State}
use Rattle.lu_history.specs.declared.operation.OpId.{OpId}
use Rattle.lu_history.specs.declared.serial.SerialOp.{SerialOp}
use Rattle.lu_history.specs.declared.serial.SerialOutcome.TheVariants.{Stuck}
use Rattle.lu_history.specs.Histories.{IsPending, calls as calls_count, outcomes}
use Rattle.lu_history.specs.Parts.{keep_pending}
use Rattle.lu_history.proofs.Events.{last_at, split_at}
use Rattle.lu_serial.specs.Serial.{IsSerialHistory}
use Rattle.lu_witness.specs.Witnesses.{HasWitness, IsEntryAt, IsGood, entries}
use Rattle.lu_witness.proofs.Entries.{entries-append, entries_own, entry_of}
use Rattle.lu_client.specs.Alone.{Blocks, Rest, RestAfter}
use Rattle.lu_client.specs.Automaton.{HasAllEntries, NoneStuck}
use Rattle.lu_client.proofs.Outcomes.{begin_rests, stuck_is_played}
use Rattle.lu_client.proofs.Played.{ready, serial_is_played}
use Rattle.lu_serial_graph.proofs.After.{none_stuck, serial_entries}
use Rattle.lu_run.proofs.Completed.{completes}
use Rattle.lu_linearization.specs.declared.configuration.Configuration.{Configuration as Kept}
use Rattle.lu_linearization.specs.Linearizations.{AllReturned}
use Rattle.lu_linearization.specs.Configurations.{Configuration, HasComplete, HasStuck, IsConfiguration, effects_in, ReadsPrefixes, Reads}
use Rattle.lu_linearization.specs.Monitors.{CanBeStuck, Holds, by_thread}
use Rattle.lu_linearization.proofs.Configured.{complete_is_configured, stuck_is_configured, waiting_tells}
use Rattle.lu_linearization.proofs.Sequential.{in_turn, is_pending, pending_count}
use Rattle.lu_run.specs.declared.automaton.ThreadCall.{ThreadCall}
use Rattle.lu_run.specs.declared.run.RunEvent.{RunEvent}
use Rattle.lu_run.specs.declared.table.Rests.{Rests}
use Rattle.lu_run.specs.declared.table.Table.{Table}
use Rattle.lu_run.specs.Asking.{HasRest}
use Rattle.lu_run.specs.Tables.{Answer, recorded}
use Rattle.lu_run.specs.Following.{NextState, question_of}
use Rattle.lu_run.specs.Judging.{IsFollowed, HasLinearization, IsGoodNow, IsLinearizable, IsPassing, IsPassingNow, StuckIfPending, call_of}
use Rattle.lu_run.proofs.Finished.{none_left, some_left}
use Rattle.lu_run.specs.Runs.{IsRun, history_of, listed, matrix_of, numbers_of, with_numbers}
use Rattle.lu_run.proofs.Automated.{next_back, next_to, no_calls, numbers_none, own_calls}
use Rattle.lu_run.proofs.Histories.{calls_after}

-- the outcome of an entry
entry_outcome : (q : List SerialOp) (a : OpId) (i : ℕ) (at : IsEntryAt q i a) → slice_get (entries a.t q) a.k ≡ Some at.0.outcome
entry_outcome q a i at =
    let op = at.0 in
    let rest = drop (suc i) q in
    let front = entries a.t (take i q) in
    let own : entries a.t (op ∷ rest) ≡ op.outcome ∷ entries a.t rest = subst (λ t. entries t (op ∷ rest) ≡ op.outcome ∷ entries t rest) at.2 (entries_own op rest) in
    let whole : entries a.t q ≡ front ++ op.outcome ∷ entries a.t rest = ap (entries a.t) (split_at q op i at.1) ∙ (entries-append a.t (take i q) (op ∷ rest) ∙ ap (λ x. front ++ x) own) in
    ap (λ x. slice_get x a.k) whole ∙ (ap (slice_get (front ++ op.outcome ∷ entries a.t rest)) (sym at.3) ∙ last_at front (entries a.t rest) op.outcome)

few_numbers : (calls : List ACall) (numbers : List ℕ) → length (with_numbers calls numbers) ≤ length numbers
few_numbers calls [] = omega arith
few_numbers calls (n ∷ numbers) =
    let rest = few_numbers calls numbers in
    let whole = length-append (listed (slice_get calls n)) (with_numbers calls numbers) in
    let one = few (slice_get calls n) in
    omega (arith, rest, whole, one)
  where
    few : (o : Option ACall) → length (listed o) ≤ 1
    few None = omega arith
    few (Some x) = omega arith

-- the call blocks from this rest
abbrev pub StuckAt : Component → List ACall → Rest → ThreadCall → Type 0
StuckAt c calls rest call = (a : ACall) × (slice_get calls call.call ≡ Some a) × Blocks c rest call.thread a

module _ (c : Component) (setup calls : List ACall) (events : List RunEvent) (s : State) (start : IsStart c (matrix_of setup calls events) s) (run : IsRun calls events) where
  reads : ReadsPrefixes (IsSerialHistory s) (RestAfter s)
  reads p r member never = begin_rests c (matrix_of setup calls events) s (ready c (matrix_of setup calls events) s start) 0 p r member none
    where
      none : NoneStuck p
      none i op at stuck = never (record { t = op.thread; k = length (entries op.thread (take i p)) }) (entry_outcome p (record { t = op.thread; k = length (entries op.thread (take i p)) }) i (op, at, refl, refl) ∙ ap Some stuck)

  has_stuck : (a : OpId) → IsPending (history_of events) a → HasStuck (IsSerialHistory s) (RestAfter s) (λ x. StuckAt c calls x (call_of calls events a)) (history_of events) a
  has_stuck a pend q many =
      let played = stuck_is_played c (matrix_of setup calls events) s (ready c (matrix_of setup calls events) s start) 0 q a.t in
      let number : length (entries a.t q) ≡ a.k = many a.t ∙ (pending_count (history_of events) a run.sequential pend).1 in (
        (λ member. (let b = played.0 member in
            (b.rest, b.before, (b.call, next_to c setup calls events run a.t a.k b.call (ap (slice_get (calls_of (matrix_of setup calls events) a.t)) (sym number) ∙ b.next), b.blocks)))),
        (λ (x, before, (call, called, blocks)). played.1 (record { rest = x; before = before; call = call; next = ap (slice_get (calls_of (matrix_of setup calls events) a.t)) number ∙ next_back c setup calls events run a.t a.k call called; blocks = blocks })),
      )

  has_complete : HasComplete (IsSerialHistory s) (RestAfter s) (history_of events)
  has_complete q (rest, after) many = (serial_is_played c (matrix_of setup calls events) s (ready c (matrix_of setup calls events) s start) q).1 (inl (rest, after, all))
    where
      all : HasAllEntries (matrix_of setup calls events) q
      all t = elim (cases_lt t 8) as (λ _. length (calls_of (matrix_of setup calls events) t) ≤ length (entries t q)) [
        | inl lt ↦
            (let line = ap length (own_calls setup calls events t lt) in
            let few = few_numbers calls (numbers_of t events) in
            let made = calls_after t [] events in
            let as_many = many t in
            omega (arith, line, few, made, as_many))
        | inr past ↦ (let none = ap length (no_calls setup calls events t past) in omega (arith, none))
      ]

  never_stuck : (q : List SerialOp) (t k : ℕ) → Reads (RestAfter s) q → slice_get (entries t q) k ≡ Some Stuck → ⊥
  never_stuck q t k (rest, (u, shown)) stuck =
      let a : OpId = record { t = t; k = k } in
      let there = entry_of q a (slice_get_within (entries t q) k Stuck stuck) in
      let op = there.1.0 in
      let is : op.outcome ≡ Stuck = same_Some op.outcome Stuck (sym (entry_outcome q a there.0 there.1) ∙ stuck) in
      none_stuck shown.history (take there.0 q) op (drop (suc there.0) q) (sym shown.holds.1 ∙ split_at q op there.0 there.1.1) is

  nobody : (t : ℕ) → 8 ≤ t → calls_count t (history_of events) ≡ 0
  nobody t past = (let made = calls_after t [] events in let none = ap length (numbers_none calls t past events run.events_of) in omega (arith, made, none))

  pub linear_passes : HasLinearization s events → IsLinearizable s events
  linear_passes line = (completes (Reads (RestAfter s)) never_stuck (history_of events) run.sequential nobody).0 line

  module _ (table : Table) (pending : List (Option ThreadCall)) (list : List Kept) (was : IsFollowed c s calls events table pending list (history_of events)) where
    -- a pending call has its witness exactly where it can be stuck
    pub stuck_witness : (a : OpId) → IsPending (history_of events) a → by_thread pending a.t ≡ Some (call_of calls events a) → HasWitness (IsSerialHistory s) (keep_pending a.t (history_of events)) ↔ CanBeStuck (NextState table) (call_of calls events a) list
    stuck_witness a pend waits =
        let law = stuck_is_configured (IsSerialHistory s) (RestAfter s) (StuckAt c calls) (call_of calls events) reads (serial_entries s) (history_of events) a run.sequential pend (has_stuck a pend) in (
          (λ witness. to (law.0 witness)),
          (λ can. law.1 (from can)),
        )
      where
        to : (d : Configuration Rest) × IsConfiguration (RestAfter s) (history_of events) d × ((t : ℕ) → d.effects t ≡ None) × StuckAt c calls d.state (call_of calls events a) → CanBeStuck (NextState table) (call_of calls events a) list
        to (d, is, none, (made, called, blocks)) =
            let e = (was.configurations d).0 is in (
              e.0,
              e.1,
              (
                (λ t. e.3 t ∙ none t),
                (λ o next leads.
                    let right = was.automaton.answers (question_of e.0.state (call_of calls events a)) (Some (o, next)) leads in
                    let same : e.2.0 ≡ right.from = same_Some e.2.0 right.from (sym e.2.1 ∙ right.state) in
                    let which : made ≡ right.call = same_Some made right.call (sym called ∙ right.called) in
                    right.right.2.never_blocks (d.state, subst (λ (z : Rests). HasRest z.positions.items d.state) same e.2.2, subst (λ z. Blocks c d.state a.t z) which blocks)),
              ),
            )

        from : CanBeStuck (NextState table) (call_of calls events a) list → (d : Configuration Rest) × IsConfiguration (RestAfter s) (history_of events) d × ((t : ℕ) → d.effects t ≡ None) × StuckAt c calls d.state (call_of calls events a)
        from (d, holds, (none, stuck)) = by (recorded table (question_of d.state (call_of calls events a))) refl (was.answered d a.t (call_of calls events a) holds waits (none a.t))
          where
            by : (r : Option Answer) → recorded table (question_of d.state (call_of calls events a)) ≡ r → IsSome r → (d : Configuration Rest) × IsConfiguration (RestAfter s) (history_of events) d × ((t : ℕ) → d.effects t ≡ None) × StuckAt c calls d.state (call_of calls events a)
            by None e none_known = absurd cc
            by (Some (Some (o, y))) e known = absurd (stuck o y e)
            by (Some None) e known =
                let right = was.automaton.answers (question_of d.state (call_of calls events a)) None e in
                let blocks = right.right.blocks in
                let there : Configuration Rest = record { state = blocks.0; effects = d.effects } in
                (there, (was.configurations there).1 (d, holds, (right.from, right.state, blocks.1), λ t. refl), none, (right.call, right.called, blocks.2))

    -- where all calls have returned, there is a witness exactly where a configuration is left
    pub complete_witness : AllReturned (history_of events) → HasWitness (IsSerialHistory s) (history_of events) ↔ ((d : Configuration Rest) × IsConfiguration (RestAfter s) (history_of events) d)
    complete_witness all = complete_is_configured (IsSerialHistory s) (RestAfter s) reads (history_of events) run.sequential all has_complete

    -- ---- the whole verdict

    pub seat : (a : OpId) → IsPending (history_of events) a → a.t < 8
    seat a pend = elim (cases_lt a.t 8) as (λ _. a.t < 8) [
      | inl lt ↦ lt
      | inr past ↦ absurd (
          let one = (pending_count (history_of events) a run.sequential pend).0 in
          let made = calls_after a.t [] events in
          let none = ap length (numbers_none calls a.t past events run.events_of) in
          omega (arith, one, made, none))
    ]

    pub waits : (a : OpId) → IsPending (history_of events) a → by_thread pending a.t ≡ Some (call_of calls events a)
    waits a pend =
        let counts = pending_count (history_of events) a run.sequential pend in
        let lt : length (outcomes a.t (history_of events)) < calls_count a.t (history_of events) = omega (arith, counts.0, counts.1) in
        was.pends a.t
        ∙ (ap (λ b. if b then Some (call_of calls events (record { t = a.t; k = length (outcomes a.t (history_of events)) })) else None) (lt-ltb (length (outcomes a.t (history_of events))) (calls_count a.t (history_of events)) lt)
        ∙ ap (λ k. Some (call_of calls events (record { t = a.t; k = k }))) counts.1)

    pub who_waits : (t : ℕ) (call : ThreadCall) → by_thread pending t ≡ Some call → (a : OpId) × IsPending (history_of events) a × (a.t ≡ t) × (call_of calls events a ≡ call)
    who_waits t call there =
        let a : OpId = record { t = t; k = length (outcomes t (history_of events)) } in
        let tells = waiting_tells (call_of calls events) (history_of events) t call (sym (was.pends t) ∙ there) in
        (a, is_pending (history_of events) a run.sequential tells.0 (omega arith), refl, tells.1)

    none_waits : ((a : OpId) → IsPending (history_of events) a → ⊥) → (t : ℕ) → by_thread pending t ≡ None
    none_waits none t = by (by_thread pending t) refl
      where
        by : (o : Option ThreadCall) → by_thread pending t ≡ o → by_thread pending t ≡ None
        by None e = e
        by (Some call) e = absurd (let a = who_waits t call e in none a.0 a.1)

    all_returned : ((a : OpId) → IsPending (history_of events) a → ⊥) → AllReturned (history_of events)
    all_returned none t = elim (cases_lt (length (outcomes t (history_of events))) (calls_count t (history_of events))) as (λ _. calls_count t (history_of events) ≡ length (outcomes t (history_of events))) [
      | inl lt ↦ absurd (none (record { t = t; k = length (outcomes t (history_of events)) }) (is_pending (history_of events) (record { t = t; k = length (outcomes t (history_of events)) }) run.sequential lt (omega arith)))
      | inr le ↦ (let few = (in_turn (history_of events) run.sequential t).returned in omega (arith, le, few))
    ]

    configured : HasLinearization s events → (d : Configuration Rest) × IsConfiguration (RestAfter s) (history_of events) d
    configured (q, line) = (record { state = line.member.0; effects = effects_in q (history_of events) }, record { q = q; linearizes = line; leads = line.member.1; effects = λ t. refl })

    pub good_tells : IsGood (IsSerialHistory s) (history_of events) → IsGoodNow table list pending
    good_tells good = record {
      complete = λ none empty.
          (let free : (a : OpId) → IsPending (history_of events) a → ⊥ = (λ a pend. (let is = waits a pend in let isnt = none a.t (seat a pend) in cc)) in
          let d = (complete_witness (all_returned free)).0 (good.complete free) in
          let e = (was.configurations d.0).0 d.1 in
          subst (λ x. Holds x e.0) empty e.1);
      stuck = λ t lt. stuck_here t (by_thread pending t) refl;
    }
      where
        stuck_here : (t : ℕ) (o : Option ThreadCall) → by_thread pending t ≡ o → StuckIfPending table list o
        stuck_here t None e = tt
        stuck_here t (Some call) e = (let a = who_waits t call e in subst (λ x. CanBeStuck (NextState table) x list) a.3 ((stuck_witness a.0 a.1 (waits a.0 a.1)).0 (good.stuck a.0 a.1)))

    pub tells_good : IsGoodNow table list pending → IsGood (IsSerialHistory s) (history_of events)
    tells_good now = record {
      complete = λ free. (complete_witness (all_returned free)).1 (configured (some_left c s calls events events table pending list (now.complete (λ t lt. none_waits free t)) was));
      stuck = λ a pend. (stuck_witness a pend (waits a pend)).1 (subst (StuckIfPending table list) (waits a pend) (now.stuck a.t (seat a pend)));
    }

    pub passing : (stuck : Bool) → IsPassingNow stuck table list pending → IsPassing s events stuck
    passing true now = tells_good now
    passing false some = linear_passes (some_left c s calls events events table pending list some was)

    pub passing_back : (stuck : Bool) → IsPassing s events stuck → IsPassingNow stuck table list pending
    passing_back true good = good_tells good
    passing_back false linearizable = λ empty. none_left c s calls events events table pending list empty was ((completes (Reads (RestAfter s)) never_stuck (history_of events) run.sequential nobody).1 linearizable)
