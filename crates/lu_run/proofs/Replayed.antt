-- A replay of a linearization goes on, step by step.
use Rattle.std.proofs.Common.{arith, ◌≡◌, ℕ, zero, suc, ◌<◌, ◌≤◌, List, [], ◌∷◌, ◌++◌, length, replicate, set, take, Option, Some, None, slice_get, refl, sym, ◌∙◌, ap, subst, inl, inr}
use Rattle.std.specs.Prelude.{IfSome}
use Rattle.std.proofs.lemmas.Bool.Decides.{eqb_tells}
use Rattle.std.proofs.lemmas.List.{get_or-set_other, get_or-set_same}
use Rattle.std.proofs.lemmas.Option.{same_Some}
use Rattle.lu_component.specs.Component.{Component}
use Rattle.lu_test.specs.declared.matrix.Call.{Call as ACall}
use Rattle.lu_machine.specs.declared.event.Event.TheVariants.{Call, Return}
use Rattle.lu_machine.specs.declared.event.Outcome.{Outcome}
use Rattle.lu_machine.specs.Starts.{IsStart}
use Rattle.lu_machine.specs.States.{State}
use Rattle.lu_history.specs.declared.operation.OpId.{OpId}
use Rattle.lu_history.specs.declared.serial.SerialOp.{SerialOp}
use Rattle.lu_history.specs.Histories.{calls as calls_count, outcomes}
use Rattle.lu_history.specs.Parts.{as_serial}
use Rattle.lu_history.proofs.Events.{kept_at}
use Rattle.lu_witness.proofs.Entries.{entries_own}
use Rattle.lu_client.specs.Alone.{Rest, RestAfter}
use Rattle.lu_linearization.specs.declared.configuration.Configuration.{Configuration as Kept}
use Rattle.lu_linearization.specs.Linearizations.{HasOnlyCalled, HasSequentialThreads, IsLinearization}
use Rattle.lu_linearization.specs.Configurations.{Reads, effects_in, pending_call}
use Rattle.lu_linearization.specs.Monitors.{by_thread}
use Rattle.lu_run.specs.declared.automaton.ThreadCall.{ThreadCall}
use Rattle.lu_run.specs.declared.following.SerialRuns.{SerialRuns}
use Rattle.lu_run.specs.declared.ordering.Replay.{Replay}
use Rattle.lu_run.specs.declared.ordering.RunOperation.{RunOperation}
use Rattle.lu_run.specs.declared.run.RunEvent.{RunEvent}
use Rattle.lu_run.specs.declared.run.RunEvent.TheVariants.{Call as Calls, Return as Back}
use Rattle.lu_run.specs.declared.table.Table.{Table}
use Rattle.lu_run.specs.Asking.{rest_at}
use Rattle.lu_run.specs.Finding.{IsAfterCall, IsAfterEffect, IsAfterReturn, IsAttempt, IsLinearized}
use Rattle.lu_run.specs.Following.{HasState}
use Rattle.lu_run.specs.Judging.{InState, call_of, thread_of}
use Rattle.lu_run.specs.Offending.{NextRest}
use Rattle.lu_run.specs.Ordering.{FollowsTo, HaveCalls, IsNextEvent, IsOperationOf, IsReplay, IsReplayed, IsSeated, PlacesTo, StepsTo, entries_of, entry_of}
use Rattle.lu_run.specs.Runs.{IsEventOf, IsRun, history_of, matrix_of}
use Rattle.lu_run.specs.Tables.{Grows, IsTable}
use Rattle.lu_run.proofs.Automated.{automaton}
use Rattle.lu_run.proofs.Finished.{first_of}
use Rattle.lu_run.proofs.Followed.{in_earlier}
use Rattle.lu_run.proofs.Foresight.{own_thread}
use Rattle.lu_run.proofs.Found.{next_history, next_sequential, sequential_at, no_effects, sound_call, sound_effect, sound_first, sound_later, sound_return}
use Rattle.lu_run.proofs.Ordered.{call_made, calls_pushed, effects_called, effects_other, effects_own, effects_put, effects_stay, entries_pushed, leads_put, line_called, line_put, line_returned}
use Rattle.lu_run.proofs.Simulated.{from_state, next_state}

pub some_weaker : {A : Type 0} (o : Option A) (P Q : A → Type 0) → ((x : A) → P x → Q x) → IfSome o P → IfSome o Q
some_weaker None P Q weaker is = tt
some_weaker (Some x) P Q weaker is = weaker x is

pub taken_at : (n : ℕ) (xs : List RunEvent) (i : ℕ) (e : RunEvent) → slice_get (take n xs) i ≡ Some e → slice_get xs i ≡ Some e
taken_at zero xs i e at = absurd cc
taken_at (suc n) [] i e at = absurd cc
taken_at (suc n) (x ∷ xs) zero e at = at
taken_at (suc n) (x ∷ xs) (suc i) e at = taken_at n xs i e at

pub event_seat : (calls : List ACall) (e : RunEvent) → IsEventOf calls e → thread_of e < 8
event_seat calls (Calls t n) is = is.0
event_seat calls (Back t outcome) is = is

same_call : (a b : ThreadCall) → a.thread ≡ b.thread → a.call ≡ b.call → a ≡ b
same_call a b thread call =
    ap (λ t. let x : ThreadCall = record { thread = t; call = a.call } in x) thread
    ∙ ap (λ n. let x : ThreadCall = record { thread = b.thread; call = n } in x) call

module _ (c : Component) (setup calls : List ACall) (events : List RunEvent) (s : State) (start : IsStart c (matrix_of setup calls events) s) (run : IsRun calls events) where
  -- after a call
  pub replayed_call : (table : Table) (r new : Replay) (t n : ℕ) → slice_get events r.attempt.events ≡ Some (Calls t n) → IsAfterCall r.attempt (record { thread = t; call = n }) new.attempt → new.order ≡ r.order → IsReplayed s calls events table r → IsReplayed s calls events table new
  replayed_call table r new t n at step same was =
      let a = r.attempt in
      let h = history_of (take a.events events) in
      let o : OpId = record { t = t; k = calls_count t h } in
      let q = entries_of r.order.items in
      let effects = by_thread a.configuration.effects in
      let whole : history_of (take new.attempt.events events) ≡ h ++ Call o.t o.k ∷ [] = ap (λ i. history_of (take i events)) step.events ∙ next_history c setup calls events s start run a.events (Calls t n) at in
      let orders : entries_of new.order.items ≡ q = ap (λ x. entries_of x.items) same in
      record {
        order = record {
          linearizes = subst (λ x. IsLinearization (Reads (RestAfter s)) x (history_of (take new.attempt.events events))) (sym orders) (subst (IsLinearization (Reads (RestAfter s)) q) (sym whole) (line_called (RestAfter s) q h was.order.linearizes effects was.effects o));
          calls_are = subst (λ x. HaveCalls calls events [] x.items) (sym same) was.order.calls_are;
        };
        leads = λ rest there. subst (λ x. RestAfter s x rest) (sym orders) (was.leads rest (subst (λ (x : Kept). InState table x.state rest) step.configuration there));
        effects = λ u. ap (λ x. effects_in x (history_of (take new.attempt.events events)) u) orders ∙ (ap (λ x. effects_in q x u) whole ∙ (effects_called (RestAfter s) q h was.order.linearizes effects was.effects o u ∙ ap (λ (x : Kept). by_thread x.effects u) (sym step.configuration)));
      }

  -- after a return
  pub replayed_return : (table : Table) (r new : Replay) (t : ℕ) (outcome : Outcome) → slice_get events r.attempt.events ≡ Some (Back t outcome) → t < 8 → length r.attempt.configuration.effects ≡ 8 → by_thread r.attempt.configuration.effects t ≡ Some (as_serial outcome) → IsAfterReturn r.attempt t new.attempt → new.order ≡ r.order → IsReplayed s calls events table r → IsReplayed s calls events table new
  replayed_return table r new t outcome at seat long had step same was =
      let a = r.attempt in
      let h = history_of (take a.events events) in
      let o : OpId = record { t = t; k = length (outcomes t h) } in
      let q = entries_of r.order.items in
      let effects = by_thread a.configuration.effects in
      let sequential : HasSequentialThreads (h ++ Return o.t o.k outcome ∷ []) = next_sequential c setup calls events s start run a.events (Back t outcome) at in
      let whole : history_of (take new.attempt.events events) ≡ h ++ Return o.t o.k outcome ∷ [] = ap (λ i. history_of (take i events)) step.events ∙ next_history c setup calls events s start run a.events (Back t outcome) at in
      let orders : entries_of new.order.items ≡ q = ap (λ x. entries_of x.items) same in
      let after : (u : ℕ) → effects_in q (h ++ Return o.t o.k outcome ∷ []) u ≡ by_thread (set a.configuration.effects t None) u =
      (λ u. elim (eqb_tells u t) as (λ _. effects_in q (h ++ Return o.t o.k outcome ∷ []) u ≡ by_thread (set a.configuration.effects t None) u) [
        | inl own ↦ subst (λ v. effects_in q (h ++ Return o.t o.k outcome ∷ []) v ≡ by_thread (set a.configuration.effects t None) v) (sym own.1)
            (effects_own (RestAfter s) q h was.order.linearizes effects was.effects o outcome sequential had ∙ sym (get_or-set_same a.configuration.effects t None None (omega (arith, long, seat))))
        | inr other ↦ effects_other (RestAfter s) q h was.order.linearizes effects was.effects o outcome sequential had u other.1 ∙ sym (get_or-set_other a.configuration.effects t u None None other.1)
      ]) in
      record {
        order = record {
          linearizes = subst (λ x. IsLinearization (Reads (RestAfter s)) x (history_of (take new.attempt.events events))) (sym orders) (subst (IsLinearization (Reads (RestAfter s)) q) (sym whole) (line_returned (RestAfter s) q h was.order.linearizes effects was.effects o outcome sequential had));
          calls_are = subst (λ x. HaveCalls calls events [] x.items) (sym same) was.order.calls_are;
        };
        leads = λ rest there. subst (λ x. RestAfter s x rest) (sym orders) (was.leads rest (subst (λ x. InState table x rest) step.state there));
        effects = λ u. ap (λ x. effects_in x (history_of (take new.attempt.events events)) u) orders ∙ (ap (λ x. effects_in q x u) whole ∙ (after u ∙ ap (λ x. by_thread x u) (sym step.effects)));
      }

  -- after an operation has taken effect
  pub replayed_effect : (old table : Table) (r new : Replay) (t : ℕ) (one : RunOperation) → Grows old table → IsTable c calls table → t < 8 → IsAttempt calls old r.attempt → IsLinearized s calls events old r.attempt → IsAfterEffect table r.attempt t new.attempt → IsOperationOf new.attempt t one → new.order.items ≡ r.order.items ++ one ∷ [] → IsReplayed s calls events old r → IsReplayed s calls events table new
  replayed_effect old table r new t one grows right seat attempt line step is same was =
      let a = r.attempt in
      let h = history_of (take a.events events) in
      let q = entries_of r.order.items in
      let op = entry_of one in
      let effects = by_thread a.configuration.effects in
      let next = call_of calls events in
      let auto = automaton c setup calls events run s start in
      let sequential = sequential_at c setup calls events s start run a.events in
      let whole : history_of (take new.attempt.events events) ≡ h = ap (λ i. history_of (take i events)) step.effect.events in
      let orders : entries_of new.order.items ≡ q ++ op ∷ [] = ap entries_of same ∙ entries_pushed r.order.items one in
      let waits : pending_call next h op.thread ≡ Some step.call = ap (pending_call next h) is.of_thread ∙ (sym (line.pends t) ∙ step.is_pending) in
      let absent : effects op.thread ≡ None = ap effects is.of_thread ∙ step.absent in
      let effect : by_thread new.attempt.configuration.effects t ≡ Some step.outcome = ap (λ x. by_thread x t) step.effect.effects ∙ get_or-set_same a.configuration.effects t (Some step.outcome) None (let long = attempt.eight.1 in omega (arith, long, seat)) in
      let outcome : step.outcome ≡ one.outcome = same_Some step.outcome one.outcome (sym effect ∙ is.effect) in
      let which : step.call ≡ is.call = same_Some step.call is.call (sym step.is_pending ∙ (sym (ap (λ x. by_thread x t) step.effect.pending) ∙ is.is_pending)) in
      let thread : step.call.thread ≡ one.thread = own_thread calls events h t step.call (sym (line.pends t) ∙ step.is_pending) ∙ sym is.of_thread in
      let makes : step.call ≡ record { thread = one.thread; call = one.call } = same_call step.call (record { thread = one.thread; call = one.call }) thread (ap (λ (x : ThreadCall). x.call) which ∙ sym is.has_call) in
      let leads : (rest : Rest) → InState table new.attempt.configuration.state rest → RestAfter s (q ++ op ∷ []) rest =
      (λ rest there.
      let from = from_state c calls table right a.configuration.state new.attempt.configuration.state step.call rest step.outcome step.leads there in
      leads_put (RestAfter s) q h was.order.linearizes effects was.effects (NextRest c calls) next auto sequential op step.call waits absent from.0 rest
      (was.leads from.0 (in_earlier old table grows a.configuration.state from.0 attempt.state from.1)) (subst (λ x. NextRest c calls from.0 step.call x rest) outcome from.2)) in
      let state = next_state c calls table right a.configuration.state new.attempt.configuration.state step.call step.outcome step.leads in
      let first = first_of state.0.positions.items (right.states new.attempt.configuration.state state.0 state.1).some in
      let some = leads (rest_at first.0) (state.0, state.1, (first.0, first.1, refl)) in
      let after : (u : ℕ) → effects_in (q ++ op ∷ []) h u ≡ by_thread (set a.configuration.effects t (Some step.outcome)) u =
      (λ u. elim (eqb_tells u t) as (λ _. effects_in (q ++ op ∷ []) h u ≡ by_thread (set a.configuration.effects t (Some step.outcome)) u) [
        | inl own ↦ ap (effects_in (q ++ op ∷ []) h) (own.1 ∙ sym is.of_thread) ∙ (effects_put (RestAfter s) q h was.order.linearizes effects was.effects (NextRest c calls) next auto sequential op step.call waits absent
            ∙ (ap (λ x. Some x) (sym outcome) ∙ subst (λ v. Some step.outcome ≡ by_thread (set a.configuration.effects t (Some step.outcome)) v) (sym own.1) (sym (get_or-set_same a.configuration.effects t (Some step.outcome) None (let long = attempt.eight.1 in omega (arith, long, seat))))))
        | inr other ↦ effects_stay (RestAfter s) q h was.order.linearizes effects was.effects (NextRest c calls) next auto sequential op step.call waits absent u (λ e. other.1 (e ∙ is.of_thread)) ∙ sym (get_or-set_other a.configuration.effects t u (Some step.outcome) None other.1)
      ]) in
      record {
        order = record {
          linearizes = subst (λ x. IsLinearization (Reads (RestAfter s)) x (history_of (take new.attempt.events events))) (sym orders) (subst (IsLinearization (Reads (RestAfter s)) (q ++ op ∷ [])) (sym whole)
              (line_put (RestAfter s) q h was.order.linearizes effects was.effects (NextRest c calls) next auto sequential op step.call waits absent (rest_at first.0) some));
          calls_are = subst (HaveCalls calls events []) (sym same) (calls_pushed calls events r.order.items one was.order.calls_are
              (call_made (RestAfter s) q h was.order.linearizes effects was.effects (NextRest c calls) next auto sequential op step.call waits absent ∙ makes));
        };
        leads = λ rest there. subst (λ x. RestAfter s x rest) (sym orders) (leads rest there);
        effects = λ u. ap (λ x. effects_in x (history_of (take new.attempt.events events)) u) orders ∙ (ap (λ x. effects_in (q ++ op ∷ []) x u) whole ∙ (after u ∙ ap (λ x. by_thread x u) (sym step.effect.effects)));
      }

-- ---- the same, of replays of a run

module _ (c : Component) (calls : List ACall) (events : List RunEvent) (first : Table) where
  pub replay_effect : (old table : Table) (r new : Replay) (t : ℕ) (one : RunOperation) → Grows old table → IsTable c calls table → t < 8 → IsAfterEffect table r.attempt t new.attempt → IsOperationOf new.attempt t one → new.order.items ≡ r.order.items ++ one ∷ [] → IsReplay c calls events first old r → IsReplay c calls events first table new
  replay_effect old table r new t one grows right seat step is same was = record {
    sound = sound_effect c calls events first table r.attempt new.attempt (sound_later c calls events first old table grows r.attempt was.sound) t right seat step;
    replayed = λ setup s start starts run. replayed_effect c setup calls events s start run old table r new t one grows right seat was.sound.is (was.sound.linearized setup s start starts run) step is same (was.replayed setup s start starts run);
  }

  pub replay_call : (table : Table) (r new : Replay) (t n : ℕ) → slice_get events r.attempt.events ≡ Some (Calls t n) → t < 8 → n < length calls → IsAfterCall r.attempt (record { thread = t; call = n }) new.attempt → new.order ≡ r.order → IsReplay c calls events first table r → IsReplay c calls events first table new
  replay_call table r new t n at seat within step same was = record {
    sound = sound_call c calls events first table r.attempt new.attempt was.sound t n at seat within step;
    replayed = λ setup s start starts run. replayed_call c setup calls events s start run table r new t n at step same (was.replayed setup s start starts run);
  }

  pub replay_return : (table : Table) (r new : Replay) (t : ℕ) (outcome : Outcome) → slice_get events r.attempt.events ≡ Some (Back t outcome) → t < 8 → by_thread r.attempt.configuration.effects t ≡ Some (as_serial outcome) → IsAfterReturn r.attempt t new.attempt → new.order ≡ r.order → IsReplay c calls events first table r → IsReplay c calls events first table new
  replay_return table r new t outcome at seat had step same was = record {
    sound = sound_return c calls events first table r.attempt new.attempt was.sound t outcome at seat had step;
    replayed = λ setup s start starts run. replayed_return c setup calls events s start run table r new t outcome at seat was.sound.is.eight.1 had step same (was.replayed setup s start starts run);
  }

-- ---- one step within the first events of runs

pub step_followed : (runs : SerialRuns) (part : List RunEvent) (table : Table) (from to : Replay) (e : RunEvent) → IsNextEvent part from.attempt.events e → IsEventOf runs.calls.now e → FollowsTo e from to → StepsTo runs part table from table to
step_followed runs part table from to (Calls t n) next seat follows = (
  (λ le. (let more = follows.1.events in let lt = next.0 in omega (arith, more, lt))),
  (λ events rest first cut was.
      let at : slice_get events from.attempt.events ≡ Some (Calls t n) = subst (λ x. slice_get x from.attempt.events ≡ Some (Calls t n)) (sym cut) (kept_at part rest (Calls t n) from.attempt.events next.1) in
      replay_call runs.component.now runs.calls.now events first table from to t n at seat.0 seat.1 follows.1 follows.0 was),
)
step_followed runs part table from to (Back t outcome) next seat follows = (
  (λ le. (let more = follows.1.step.events in let lt = next.0 in omega (arith, more, lt))),
  (λ events rest first cut was.
      let at : slice_get events from.attempt.events ≡ Some (Back t outcome) = subst (λ x. slice_get x from.attempt.events ≡ Some (Back t outcome)) (sym cut) (kept_at part rest (Back t outcome) from.attempt.events next.1) in
      replay_return runs.component.now runs.calls.now events first table from to t outcome at seat follows.1.had follows.1.step follows.0 was),
)

pub step_placed : (runs : SerialRuns) (part : List RunEvent) (old new : Table) (from to : Replay) → PlacesTo runs old from new to → StepsTo runs part old from new to
step_placed runs part old new from to places = (
  (λ le. subst (λ n. n ≤ length part) (sym places.0) le),
  (λ events rest first cut was. places.1 events first was),
)

pub seated : (calls : List ACall) (e : RunEvent) → IsEventOf calls e → IsSeated e
seated calls (Calls t n) is = is.0
seated calls (Back t outcome) is = is

-- ---- at the start

nothing_called : (q : List SerialOp) → HasOnlyCalled q [] → q ≡ []
nothing_called [] none = refl
nothing_called (op ∷ q) none = absurd (let few = none op.thread in let some = ap length (entries_own op q) in omega (arith, few, some))

pub replay_first : (c : Component) (calls : List ACall) (events : List RunEvent) (table : Table) (r : Replay) → IsTable c calls table → HasState table 0 → r.attempt.events ≡ 0 → r.attempt.configuration.state ≡ 0 → r.attempt.pending ≡ replicate 8 None → r.attempt.configuration.effects ≡ replicate 8 None → r.order.items ≡ [] → IsReplay c calls events table table r
replay_first c calls events table r right there none zero_state pending effects empty =
    let sound = sound_first c calls events table r.attempt there none zero_state pending effects in
    record {
      sound = sound;
      replayed = λ setup s start starts run.
          (let line = sound.linearized setup s start starts run in
          let h : history_of (take r.attempt.events events) ≡ [] = ap (λ i. history_of (take i events)) none in
          let at : (rest : Rest) → InState table r.attempt.configuration.state rest → IsLinearization (Reads (RestAfter s)) [] [] × RestAfter s [] rest =
          (λ rest there.
          let is = line.linearizes rest there in
          let whole : IsLinearization (Reads (RestAfter s)) is.q [] = subst (IsLinearization (Reads (RestAfter s)) is.q) h is.linearizes in
          let none_in : is.q ≡ [] = nothing_called is.q whole.called in
          (subst (λ x. IsLinearization (Reads (RestAfter s)) x []) none_in whole, subst (λ x. RestAfter s x rest) none_in is.leads)) in
          let state = sound.is.state in
          let one = first_of state.0.positions.items (right.states r.attempt.configuration.state state.0 state.1).some in
          let orders : entries_of r.order.items ≡ [] = ap entries_of empty in
          record {
            order = record {
              linearizes = subst (λ x. IsLinearization (Reads (RestAfter s)) x (history_of (take r.attempt.events events))) (sym orders) (subst (IsLinearization (Reads (RestAfter s)) []) (sym h) (at (rest_at one.0) (state.0, state.1, (one.0, one.1, refl))).0);
              calls_are = subst (HaveCalls calls events []) (sym empty) tt;
            };
            leads = λ rest there. subst (λ x. RestAfter s x rest) (sym orders) (at rest there).1;
            effects = λ t. ap (λ x. effects_in x (history_of (take r.attempt.events events)) t) orders ∙ (ap (λ x. effects_in [] x t) h ∙ sym (ap (λ x. by_thread x t) effects ∙ no_effects t));
          });
    }
