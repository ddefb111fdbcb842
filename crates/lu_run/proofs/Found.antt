-- Attempts at a linearization of a run stay sound, step by step.
use Rattle.std.proofs.Common.{arith, ◌≡◌, ℕ, zero, suc, ◌+◌, ◌<◌, ◌≤◌, ◌==◌, List, [], ◌∷◌, ◌++◌, drop, length, replicate, take, Some, None, slice_get, refl, sym, ◌∙◌, ap, subst, inl, inr, add-one}
use Rattle.std.specs.Prelude.{◌⊎◌, Vec, if◌then◌else◌}
use Rattle.std.proofs.lemmas.List.{get_or-set_other, get_or-set_same, length-set, take_all}
use Rattle.std.proofs.lemmas.Option.{same_Some}
use Rattle.lu_component.specs.Component.{Component}
use Rattle.lu_test.specs.declared.matrix.Call.{Call as ACall}
use Rattle.lu_machine.specs.declared.event.Event.TheVariants.{Call, Return}
use Rattle.lu_machine.specs.declared.event.Outcome.{Outcome}
use Rattle.lu_machine.specs.Starts.{IsStart}
use Rattle.lu_machine.specs.States.{State}
use Rattle.lu_history.specs.declared.operation.OpId.{OpId}
use Rattle.lu_history.specs.declared.serial.SerialOp.{SerialOp}
use Rattle.lu_history.specs.declared.serial.SerialOutcome.{SerialOutcome}
use Rattle.lu_history.specs.Histories.{calls as calls_count, outcomes}
use Rattle.lu_history.specs.Parts.{as_serial}
use Rattle.lu_history.proofs.Events.{kept_at, split_at, take_next}
use Rattle.lu_client.specs.Alone.{Rest, RestAfter}
use Rattle.lu_client.proofs.Played.{ready, rest_starts}
use Rattle.lu_linearization.specs.declared.configuration.Configuration.{Configuration as Kept}
use Rattle.lu_linearization.specs.Linearizations.{HasSequentialThreads}
use Rattle.lu_linearization.specs.Configurations.{Configuration, IsAutomaton, IsConfiguration, Returns, TakesEffect, pending_call}
use Rattle.lu_linearization.specs.Monitors.{by_thread}
use Rattle.lu_linearization.proofs.Configured.{call_law, nothing_is_configured, pending_goes_on, put_law, return_is_configured}
use Rattle.lu_run.specs.declared.automaton.ThreadCall.{ThreadCall}
use Rattle.lu_run.specs.declared.finding.Attempt.{Attempt}
use Rattle.lu_run.specs.declared.run.RunEvent.{RunEvent}
use Rattle.lu_run.specs.declared.run.RunEvent.TheVariants.{Call as Calls, Return as Back}
use Rattle.lu_run.specs.declared.table.Table.{Table}
use Rattle.lu_run.specs.declared.following.SerialRuns.{SerialRuns}
use Rattle.lu_run.specs.Finding.{AreSound, IsAfterCall, IsAfterEffect, IsAfterReturn, IsAlike, IsAttempt, IsLinearized, IsSound, Opens}
use Rattle.lu_run.specs.Following.{AreSeated, HasState}
use Rattle.lu_run.specs.Judging.{HasLinearization, InState, StartsAt, call_of}
use Rattle.lu_run.specs.Offending.{NextRest}
use Rattle.lu_run.specs.Runs.{IsRun, history_of, matrix_of, next_event}
use Rattle.lu_run.specs.Tables.{Grows, IsTable}
use Rattle.lu_run.specs.Asking.{rest_at}
use Rattle.lu_run.proofs.Advanced.{changed, one_more, seats, seats_fewer}
use Rattle.lu_run.proofs.Automated.{automaton}
use Rattle.lu_run.proofs.Beginning.{no_pending}
use Rattle.lu_run.proofs.Finished.{first_of}
use Rattle.lu_run.proofs.Followed.{in_earlier}
use Rattle.lu_run.proofs.Histories.{calls_next, history_push, sequential_front}
use Rattle.lu_run.proofs.Known.{has_later}
use Rattle.lu_run.proofs.Simulated.{from_state, next_state}

-- ---- lists of attempts

pub sound_nothing : (c : Component) (calls : List ACall) (events : List RunEvent) (first table : Table) → AreSound c calls events first table []
sound_nothing c calls events first table i a at = absurd cc

at_end : (xs : List Attempt) (y x : Attempt) (n : ℕ) → slice_get (xs ++ y ∷ []) n ≡ Some x → (slice_get xs n ≡ Some x) ⊎ (y ≡ x)
at_end [] y x zero at = inr (same_Some y x at)
at_end [] y x (suc n) at = absurd cc
at_end (z ∷ xs) y x zero at = inl at
at_end (z ∷ xs) y x (suc n) at = at_end xs y x n at

last_is : (xs : List Attempt) (y : Attempt) → slice_get (xs ++ y ∷ []) (length xs) ≡ Some y
last_is [] y = refl
last_is (x ∷ xs) y = last_is xs y

dropped : (n i : ℕ) (xs : List Attempt) (x : Attempt) → slice_get (drop n xs) i ≡ Some x → (j : ℕ) × (slice_get xs j ≡ Some x)
dropped zero i xs x at = (i, at)
dropped (suc n) i [] x at = absurd cc
dropped (suc n) i (y ∷ xs) x at = (let r = dropped n i xs x at in (suc r.0, r.1))

module _ (c : Component) (calls : List ACall) (events : List RunEvent) (first table : Table) where
  pub sound_pushed : (list : List Attempt) (a : Attempt) → AreSound c calls events first table list → IsSound c calls events first table a → AreSound c calls events first table (list ++ a ∷ [])
  sound_pushed list a all is i x at = elim (at_end list a x i at) as (λ _. IsSound c calls events first table x) [
    | inl before ↦ all i x before
    | inr here ↦ subst (IsSound c calls events first table) here is
  ]

  pub sound_rest : (list : List Attempt) (a : Attempt) → AreSound c calls events first table (list ++ a ∷ []) → AreSound c calls events first table list
  sound_rest list a all i x at = all i x (kept_at list (a ∷ []) x i at)

  pub sound_last : (list : List Attempt) (a : Attempt) → AreSound c calls events first table (list ++ a ∷ []) → IsSound c calls events first table a
  sound_last list a all = all (length list) a (last_is list a)

  pub sound_dropped : (n : ℕ) (list : List Attempt) → AreSound c calls events first table list → AreSound c calls events first table (drop n list)
  sound_dropped n list all i x at = (let r = dropped n i list x at in all r.0 x r.1)

-- ---- as the table grows

pub attempt_later : (calls : List ACall) (old new : Table) (a : Attempt) → Grows old new → IsAttempt calls old a → IsAttempt calls new a
attempt_later calls old new a grows is = record { seated = is.seated; state = has_later old new grows a.configuration.state is.state; eight = is.eight }

module _ (c : Component) (calls : List ACall) (events : List RunEvent) (first old new : Table) (grows : Grows old new) where
  pub sound_later : (a : Attempt) → IsSound c calls events first old a → IsSound c calls events first new a
  sound_later a was = record {
    is = attempt_later calls old new a grows was.is;
    linearized = λ setup s start starts run.
        (let line = was.linearized setup s start starts run in
        record { pends = line.pends; linearizes = λ rest at. line.linearizes rest (in_earlier old new grows a.configuration.state rest was.is.state at) });
  }

  pub all_later : (list : List Attempt) → AreSound c calls events first old list → AreSound c calls events first new list
  all_later list all i a at = sound_later a (all i a at)

pub opens_none : {Z : Type 0} (runs : SerialRuns) (from : Attempt) (table : Table) (list : Vec Attempt Z) → Opens runs from table list table list
opens_none runs from table list events first is all = all

pub opens_on : {Z : Type 0} (runs : SerialRuns) (from : Attempt) (old mid new : Table) (xs ys zs : Vec Attempt Z) → Grows old mid → Opens runs from old xs mid ys → Opens runs from mid ys new zs → Opens runs from old xs new zs
opens_on runs from old mid new xs ys zs grows before more events first is all = more events first (sound_later runs.component.now runs.calls.now events first old mid grows from is) (before events first is all)

-- ---- one step

module _ (c : Component) (setup calls : List ACall) (events : List RunEvent) (s : State) (start : IsStart c (matrix_of setup calls events) s) (run : IsRun calls events) where
  automaton_is : IsAutomaton (RestAfter s) (NextRest c calls) (call_of calls events)
  automaton_is = automaton c setup calls events run s start

  pub sequential_at : (n : ℕ) → HasSequentialThreads (history_of (take n events))
  sequential_at n = sequential_front (take n events) (drop n events) (subst (λ x. HasSequentialThreads (history_of x)) (parts n events) run.sequential)
    where
      parts : (n : ℕ) (xs : List RunEvent) → xs ≡ take n xs ++ drop n xs
      parts zero xs = refl
      parts (suc n) [] = refl
      parts (suc n) (x ∷ xs) = ap (λ z. x ∷ z) (parts n xs)

  -- the history after one event more
  module _ (n : ℕ) (e : RunEvent) (at : slice_get events n ≡ Some e) where
    pub next_history : history_of (take (n + 1) events) ≡ history_of (take n events) ++ next_event (history_of (take n events)) e ∷ []
    next_history = rw (add-one n) (ap history_of (take_next events e n at) ∙ history_push [] (take n events) e)

    pub next_sequential : HasSequentialThreads (history_of (take n events) ++ next_event (history_of (take n events)) e ∷ [])
    next_sequential = one_more c setup calls events (take n events) (drop (suc n) events) s start run e (split_at events e n at)

  module _ (table : Table) (a b : Attempt) (eight : length a.pending ≡ 8) (was : IsLinearized s calls events table a) where
    -- after a call
    pub linearized_call : (t n : ℕ) → slice_get events a.events ≡ Some (Calls t n) → t < 8 → IsAfterCall a (record { thread = t; call = n }) b → IsLinearized s calls events table b
    linearized_call t n at seat step =
        let done = take a.events events in
        let h = history_of done in
        let o : OpId = record { t = t; k = calls_count t h } in
        let more = drop (suc a.events) events in
        let call : ThreadCall = record { thread = t; call = n } in
        let sequential : HasSequentialThreads (h ++ Call o.t o.k ∷ []) = next_sequential a.events (Calls t n) at in
        let which : call_of calls events o ≡ call = ap (λ x. call_of calls x o) (split_at events (Calls t n) a.events at) ∙ calls_next calls done more t n in
        let law : (u : ℕ) → pending_call (call_of calls events) (h ++ Call o.t o.k ∷ []) u ≡ (if t == u then Some call else pending_call (call_of calls events) h u) =
        (λ u. (pending_goes_on (call_of calls events) h o u).0 sequential ∙ ap (λ x. if t == u then Some x else pending_call (call_of calls events) h u) which) in
        let whole : history_of (take b.events events) ≡ h ++ Call o.t o.k ∷ [] = ap (λ i. history_of (take i events)) step.events ∙ next_history a.events (Calls t n) at in
        record {
          pends = λ u. ap (λ x. by_thread x u) step.pending ∙ (changed a.pending t eight seat (Some call) (pending_call (call_of calls events) (h ++ Call o.t o.k ∷ [])) (pending_call (call_of calls events) h) was.pends law u
              ∙ ap (λ x. pending_call (call_of calls events) x u) (sym whole));
          linearizes = λ rest there.
              (let before : InState table a.configuration.state rest = subst (λ x. InState table x rest) (ap (λ (x : Kept). x.state) step.configuration) there in
              let old : Configuration Rest = record { state = rest; effects = by_thread a.configuration.effects } in
              let new : Configuration Rest = record { state = rest; effects = by_thread b.configuration.effects } in
              let is = (call_law (RestAfter s) (NextRest c calls) (call_of calls events) automaton_is h o new sequential).1 (old, [], was.linearizes rest before, tt, record { state = refl; effects = λ u. ap (λ (x : Kept). by_thread x.effects u) (sym step.configuration) }) in
              subst (λ x. IsConfiguration (RestAfter s) x new) (sym whole) is);
        }

    -- after a return
    pub linearized_return : (t : ℕ) (outcome : Outcome) → slice_get events a.events ≡ Some (Back t outcome) → t < 8 → length a.configuration.effects ≡ 8 → by_thread a.configuration.effects t ≡ Some (as_serial outcome) → IsAfterReturn a t b → IsLinearized s calls events table b
    linearized_return t outcome at seat long had step =
        let h = history_of (take a.events events) in
        let o : OpId = record { t = t; k = length (outcomes t h) } in
        let sequential : HasSequentialThreads (h ++ Return o.t o.k outcome ∷ []) = next_sequential a.events (Back t outcome) at in
        let law : (u : ℕ) → pending_call (call_of calls events) (h ++ Return o.t o.k outcome ∷ []) u ≡ (if t == u then None else pending_call (call_of calls events) h u) =
        (λ u. (pending_goes_on (call_of calls events) h o u).1 outcome sequential) in
        let whole : history_of (take b.events events) ≡ h ++ Return o.t o.k outcome ∷ [] = ap (λ i. history_of (take i events)) step.events ∙ next_history a.events (Back t outcome) at in
        record {
          pends = λ u. ap (λ x. by_thread x u) step.pending ∙ (changed a.pending t eight seat None (pending_call (call_of calls events) (h ++ Return o.t o.k outcome ∷ [])) (pending_call (call_of calls events) h) was.pends law u
              ∙ ap (λ x. pending_call (call_of calls events) x u) (sym whole));
          linearizes = λ rest there.
              (let before : InState table a.configuration.state rest = subst (λ x. InState table x rest) step.state there in
              let old : Configuration Rest = record { state = rest; effects = by_thread a.configuration.effects } in
              let new : Configuration Rest = record { state = rest; effects = by_thread b.configuration.effects } in
              let back : Returns t (as_serial outcome) old new = record {
                state = refl;
                had = had;
                gone = ap (λ x. by_thread x t) step.effects ∙ get_or-set_same a.configuration.effects t None None (omega (arith, long, seat));
                others = λ u ne. ap (λ x. by_thread x u) step.effects ∙ get_or-set_other a.configuration.effects t u None None ne;
              } in
              let is = (return_is_configured (RestAfter s) h o outcome new sequential).1 (old, was.linearizes rest before, back) in
              subst (λ x. IsConfiguration (RestAfter s) x new) (sym whole) is);
        }

    -- after an operation has taken effect
    pub linearized_effect : (t : ℕ) → IsTable c calls table → t < 8 → length a.configuration.effects ≡ 8 → IsAfterEffect table a t b → IsLinearized s calls events table b
    linearized_effect t right seat long step =
        let h = history_of (take a.events events) in
        let whole : history_of (take b.events events) ≡ h = ap (λ i. history_of (take i events)) step.effect.events in
        let pending = pending_call (call_of calls events) h in
        let op : SerialOp = record { thread = t; outcome = step.outcome } in
        record {
          pends = λ u. ap (λ x. by_thread x u) step.effect.pending ∙ (was.pends u ∙ ap (λ x. pending_call (call_of calls events) x u) (sym whole));
          linearizes = λ rest there.
              (let from = from_state c calls table right a.configuration.state b.configuration.state step.call rest step.outcome step.leads there in
              let old : Configuration Rest = record { state = from.0; effects = by_thread a.configuration.effects } in
              let new : Configuration Rest = record { state = rest; effects = by_thread b.configuration.effects } in
              let takes : TakesEffect (NextRest c calls) pending op old new = record {
                call = step.call;
                is_pending = sym (was.pends t) ∙ step.is_pending;
                absent = step.absent;
                leads = from.2;
                effects = ap (λ x. by_thread x t) step.effect.effects ∙ get_or-set_same a.configuration.effects t (Some step.outcome) None (omega (arith, long, seat));
                others = λ u ne. ap (λ x. by_thread x u) step.effect.effects ∙ get_or-set_other a.configuration.effects t u (Some step.outcome) None ne;
              } in
              let is = put_law (RestAfter s) (NextRest c calls) (call_of calls events) automaton_is h op old new (sequential_at a.events) (was.linearizes from.0 from.1) takes in
              subst (λ x. IsConfiguration (RestAfter s) x new) (sym whole) is);
        }

-- ---- the same, of attempts that are sound

module _ (c : Component) (calls : List ACall) (events : List RunEvent) (first table : Table) (a b : Attempt) (was : IsSound c calls events first table a) where
  pub sound_call : (t n : ℕ) → slice_get events a.events ≡ Some (Calls t n) → t < 8 → n < length calls → IsAfterCall a (record { thread = t; call = n }) b → IsSound c calls events first table b
  sound_call t n at seat within step =
      let call : ThreadCall = record { thread = t; call = n } in
      record {
        is = record {
          seated = subst (AreSeated calls) (sym step.pending) (seats a.pending t was.is.eight.0 seat calls n within was.is.seated);
          state = subst (λ (x : Kept). HasState table x.state) (sym step.configuration) was.is.state;
          eight = (ap length step.pending ∙ (length-set a.pending t (Some call) ∙ was.is.eight.0), ap (λ (x : Kept). length x.effects) step.configuration ∙ was.is.eight.1);
        };
        linearized = λ setup s start starts run. linearized_call c setup calls events s start run table a b was.is.eight.0 (was.linearized setup s start starts run) t n at seat step;
      }

  pub sound_return : (t : ℕ) (outcome : Outcome) → slice_get events a.events ≡ Some (Back t outcome) → t < 8 → by_thread a.configuration.effects t ≡ Some (as_serial outcome) → IsAfterReturn a t b → IsSound c calls events first table b
  sound_return t outcome at seat had step = record {
    is = record {
      seated = subst (AreSeated calls) (sym step.pending) (seats_fewer a.pending t was.is.eight.0 seat calls was.is.seated);
      state = subst (HasState table) (sym step.state) was.is.state;
      eight = (ap length step.pending ∙ (length-set a.pending t None ∙ was.is.eight.0), ap length step.effects ∙ (length-set a.configuration.effects t None ∙ was.is.eight.1));
    };
    linearized = λ setup s start starts run. linearized_return c setup calls events s start run table a b was.is.eight.0 (was.linearized setup s start starts run) t outcome at seat was.is.eight.1 had step;
  }

  pub sound_effect : (t : ℕ) → IsTable c calls table → t < 8 → IsAfterEffect table a t b → IsSound c calls events first table b
  sound_effect t right seat step = record {
    is = record {
      seated = subst (AreSeated calls) (sym step.effect.pending) was.is.seated;
      state = next_state c calls table right a.configuration.state b.configuration.state step.call step.outcome step.leads;
      eight = (ap length step.effect.pending ∙ was.is.eight.0, ap length step.effect.effects ∙ (length-set a.configuration.effects t (Some step.outcome) ∙ was.is.eight.1));
    };
    linearized = λ setup s start starts run. linearized_effect c setup calls events s start run table a b was.is.eight.0 (was.linearized setup s start starts run) t right seat was.is.eight.1 step;
  }

pub sound_alike : (c : Component) (calls : List ACall) (events : List RunEvent) (first table : Table) (a b : Attempt) → IsAlike a b → IsSound c calls events first table a → IsSound c calls events first table b
sound_alike c calls events first table a b alike was = record {
  is = record {
    seated = subst (AreSeated calls) (sym alike.pending) was.is.seated;
    state = subst (λ (x : Kept). HasState table x.state) (sym alike.configuration) was.is.state;
    eight = (ap length alike.pending ∙ was.is.eight.0, ap (λ (x : Kept). length x.effects) alike.configuration ∙ was.is.eight.1);
  };
  linearized = λ setup s start starts run.
      (let line = was.linearized setup s start starts run in
      record {
        pends = λ t. ap (λ x. by_thread x t) alike.pending ∙ (line.pends t ∙ ap (λ n. pending_call (call_of calls events) (history_of (take n events)) t) (sym alike.events));
        linearizes = λ rest at.
            (let before : InState table a.configuration.state rest = subst (λ (x : Kept). InState table x.state rest) alike.configuration at in
            subst (λ n. IsConfiguration (RestAfter s) (history_of (take n events)) (record { state = rest; effects = by_thread b.configuration.effects })) (sym alike.events)
            (subst (λ (x : Kept). IsConfiguration (RestAfter s) (history_of (take a.events events)) (record { state = rest; effects = by_thread x.effects })) (sym alike.configuration) (line.linearizes rest before)));
      });
}

-- ---- at the start and at the end

pub no_effects : (t : ℕ) → by_thread {C = SerialOutcome} (replicate 8 None) t ≡ None
no_effects zero = refl
no_effects (suc zero) = refl
no_effects (suc (suc zero)) = refl
no_effects (suc (suc (suc zero))) = refl
no_effects (suc (suc (suc (suc zero)))) = refl
no_effects (suc (suc (suc (suc (suc zero))))) = refl
no_effects (suc (suc (suc (suc (suc (suc zero)))))) = refl
no_effects (suc (suc (suc (suc (suc (suc (suc zero))))))) = refl
no_effects (suc (suc (suc (suc (suc (suc (suc (suc t)))))))) = refl

pub sound_first : (c : Component) (calls : List ACall) (events : List RunEvent) (table : Table) (a : Attempt) → HasState table 0 → a.events ≡ 0 → a.configuration.state ≡ 0 → a.pending ≡ replicate 8 None → a.configuration.effects ≡ replicate 8 None → IsSound c calls events table table a
sound_first c calls events table a there none zero_state pending effects = record {
  is = record {
    seated = λ t call is. absurd (let e = no_pending t in let whole : by_thread {C = ThreadCall} (replicate 8 None) t ≡ Some call = ap (λ x. by_thread x t) (sym pending) ∙ is in cc);
    state = subst (HasState table) (sym zero_state) there;
    eight = (ap length pending, ap length effects);
  };
  linearized = λ setup s start starts run.
      (let h : history_of (take a.events events) ≡ [] = ap (λ i. history_of (take i events)) none in
      record {
        pends = λ t. ap (λ x. by_thread x t) pending ∙ (no_pending t ∙ ap (λ x. pending_call (call_of calls events) x t) (sym h));
        linearizes = λ rest at.
            (let new : Configuration Rest = record { state = rest; effects = by_thread a.configuration.effects } in
            let zero_at : InState table 0 rest = subst (λ x. InState table x rest) zero_state at in
            let leads = (rest_starts c (matrix_of setup calls events) s (ready c (matrix_of setup calls events) s start) rest).1 ((starts rest).0 zero_at) in
            let is = (nothing_is_configured (RestAfter s) new).1 (leads, λ t. ap (λ x. by_thread x t) effects ∙ no_effects t) in
            subst (λ x. IsConfiguration (RestAfter s) x new) (sym h) is);
      });
}

pub sound_last_event : (c : Component) (calls : List ACall) (events : List RunEvent) (first table : Table) (a : Attempt) → IsTable c calls table → IsSound c calls events first table a → length events ≤ a.events → (setup : List ACall) (s : State) → IsStart c (matrix_of setup calls events) s → StartsAt first s → IsRun calls events → HasLinearization s events
sound_last_event c calls events first table a right was le setup s start starts run =
    let line = was.linearized setup s start starts run in
    let state = was.is.state in
    let one = first_of state.0.positions.items (right.states a.configuration.state state.0 state.1).some in
    let is = line.linearizes (rest_at one.0) (state.0, state.1, (one.0, one.1, refl)) in
    let all : IsConfiguration (RestAfter s) (history_of events) (record { state = rest_at one.0; effects = by_thread a.configuration.effects }) = subst (λ x. IsConfiguration (RestAfter s) (history_of x) (record { state = rest_at one.0; effects = by_thread a.configuration.effects })) (take_all a.events events le) is in
    (all.q, all.linearizes)
