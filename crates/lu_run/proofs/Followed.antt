-- The monitor over the automaton has the configurations of the run's linearizations.
use Rattle.std.proofs.Common.{◌≡◌, ◌≢◌, ℕ, List, [], ◌∷◌, ◌++◌, Option, Some, None, slice_get, refl, sym, ◌∙◌, ap, subst}
use Rattle.std.specs.Prelude.{◌↔◌, IsSome}
use Rattle.std.proofs.lemmas.Option.{same_Some}
use Rattle.lu_component.specs.Component.{Component}
use Rattle.lu_test.specs.declared.matrix.Call.{Call as ACall}
use Rattle.lu_machine.specs.declared.event.Event.{Event}
use Rattle.lu_machine.specs.declared.event.Event.TheVariants.{Call, Return}
use Rattle.lu_machine.specs.declared.event.Outcome.{Outcome}
use Rattle.lu_machine.specs.States.{State}
use Rattle.lu_history.specs.declared.operation.OpId.{OpId}
use Rattle.lu_history.specs.declared.serial.SerialOp.{SerialOp}
use Rattle.lu_history.specs.declared.serial.SerialOutcome.{SerialOutcome}
use Rattle.lu_history.specs.Parts.{as_serial}
use Rattle.lu_client.specs.Alone.{Rest, RestAfter}
use Rattle.lu_linearization.specs.declared.configuration.Configuration.{Configuration as Kept}
use Rattle.lu_linearization.specs.Linearizations.{HasSequentialThreads}
use Rattle.lu_linearization.specs.Configurations.{Configuration, IsAutomaton, IsConfiguration, Returns, pending_call}
use Rattle.lu_linearization.specs.Monitors.{AreClosed, AreNext, Holds, by_thread}
use Rattle.lu_linearization.proofs.Configured.{call_law, return_is_configured}
use Rattle.lu_run.specs.declared.automaton.ThreadCall.{ThreadCall}
use Rattle.lu_run.specs.declared.run.RunEvent.{RunEvent}
use Rattle.lu_run.specs.declared.run.RunEvent.TheVariants.{Call as Calls, Return as Back}
use Rattle.lu_run.specs.declared.table.Rests.{Rests}
use Rattle.lu_run.specs.declared.table.Table.{Table}
use Rattle.lu_run.specs.Tables.{Grows, IsTable, recorded}
use Rattle.lu_run.specs.Asking.{HasRest}
use Rattle.lu_run.specs.Following.{AreAnswered, AreSeated, question_of}
use Rattle.lu_run.specs.Foreseeing.{FitsReturns, NextAllowed, next_return}
use Rattle.lu_run.specs.Judging.{InState, IsFollowed, IsForeseen, Represents, call_of}
use Rattle.lu_run.specs.Offending.{NextRest}
use Rattle.lu_run.proofs.Foresight.{fits_after, fits_after_return, fits_before, fits_before_return, forward, other_return, own_thread, unforeseen}
use Rattle.lu_run.proofs.Simulated.{backward, pending_same, states_valid}

-- effects count thread by thread
configured_same : {X : Type 0} (LeadsTo : List SerialOp → X → Type 0) (h : List Event) (x : X) (d c : ℕ → Option SerialOutcome) → ((t : ℕ) → d t ≡ c t) → IsConfiguration LeadsTo h (record { state = x; effects = d }) → IsConfiguration LeadsTo h (record { state = x; effects = c })
configured_same LeadsTo h x d c same is = record { q = is.q; linearizes = is.linearizes; leads = is.leads; effects = λ t. is.effects t ∙ same t }

-- a state stays as it is
module _ (old new : Table) (grows : Grows old new) where
  pub in_later : (n : ℕ) (rest : Rest) → InState old n rest → InState new n rest
  in_later n rest (state, at, has) = (state, grows.states n state at, has)

  pub in_earlier : (n : ℕ) (rest : Rest) → (state : Rests) × (slice_get old.states.keys n ≡ Some state) → InState new n rest → InState old n rest
  in_earlier n rest (was, there) (state, at, has) =
      let same : state ≡ was = same_Some state was (sym at ∙ grows.states n was there) in
      (was, there, subst (λ (z : Rests). HasRest z.positions.items rest) same has)

  pub represents_grown : (list : List Kept) → ((d : Configuration ℕ) → Holds list d → (state : Rests) × (slice_get old.states.keys d.state ≡ Some state)) → (c : Configuration Rest) → Represents old list c ↔ Represents new list c
  represents_grown list valid c = (
    (λ (d, holds, at, same). (d, holds, in_later d.state c.state at, same)),
    (λ (d, holds, at, same). (d, holds, in_earlier d.state c.state (valid d holds) at, same)),
  )

module _ (c : Component) (s : State) (calls : List ACall) (events : List RunEvent) (automaton : IsAutomaton (RestAfter s) (NextRest c calls) (call_of calls events)) where
  -- after a call
  module _ (h : List Event) (a : OpId) (n : ℕ) (more : List RunEvent) (old new : Table) (before pending : List (Option ThreadCall)) (were returns : List (Option SerialOutcome)) (list closure : List Kept) (was : IsForeseen c s calls events old before were list h (Calls a.t n ∷ more)) (sequential : HasSequentialThreads (h ++ Call a.t a.k ∷ [])) (is : IsTable c calls new) (grows : Grows old new)
      (seated : AreSeated calls pending) (pends : (t : ℕ) → by_thread pending t ≡ pending_call (call_of calls events) (h ++ Call a.t a.k ∷ []) t) (foretold : (t : ℕ) (call : ThreadCall) → by_thread pending t ≡ Some call → by_thread returns t ≡ next_return t more) (closed : AreClosed (NextAllowed new returns) (by_thread pending) a.t list closure) (answered : AreAnswered new (by_thread pending) closure) where
    own : (t : ℕ) (call : ThreadCall) → by_thread pending t ≡ Some call → call.thread ≡ t
    own t call at = own_thread calls events (h ++ Call a.t a.k ∷ []) t call (sym (pends t) ∙ at)

    earlier : (d : Configuration Rest) → (IsConfiguration (RestAfter s) h d × FitsReturns more d.effects) ↔ Represents new list d
    earlier d =
        let grown = represents_grown old new grows list was.states d in (
          (λ x. grown.0 ((was.configurations d).0 x)),
          (λ x. (was.configurations d).1 (grown.1 x)),
        )

    called : (d : Configuration Rest) → (IsConfiguration (RestAfter s) (h ++ Call a.t a.k ∷ []) d × FitsReturns more d.effects) ↔ Represents new closure d
    called d =
        let law = call_law (RestAfter s) (NextRest c calls) (call_of calls events) automaton h a d sequential in (
          (λ (x, fits).
              let old_one = law.0 x in
              let all = pending_same (NextRest c calls) (pending_call (call_of calls events) (h ++ Call a.t a.k ∷ [])) (by_thread pending) old_one.1 old_one.0 d (λ t. sym (pends t)) old_one.4 in
              let from = (earlier old_one.0).0 (old_one.2, fits_before (NextRest c calls) (by_thread pending) more old_one.1 old_one.0 d all fits) in
              let end = forward new returns (by_thread pending) more own foretold c calls is a.t list closure closed answered old_one.1 [] from.0 from.0 old_one.0 d from.1 old_one.3 (record { state = refl; effects = λ t. refl }) from.2 from.3 all fits in
              (end.0, (closed end.0).1 (from.0, old_one.1, from.1, old_one.3, end.1), end.2, end.3)),
          (λ (e, holds, at, same).
              let from = (closed e).0 holds in
              let first = backward c calls new is (by_thread pending) from.1 from.0 e d.state (unforeseen new returns (by_thread pending) from.1 from.0 e from.4) at in
              let old_one : IsConfiguration (RestAfter s) h (record { state = first.0; effects = from.0.effects }) × FitsReturns more from.0.effects = (earlier (record { state = first.0; effects = from.0.effects })).1 (from.0, from.2, first.1, λ t. refl) in
              let all = pending_same (NextRest c calls) (by_thread pending) (pending_call (call_of calls events) (h ++ Call a.t a.k ∷ [])) from.1 (record { state = first.0; effects = from.0.effects }) (record { state = d.state; effects = e.effects }) pends first.2 in
              let back = call_law (RestAfter s) (NextRest c calls) (call_of calls events) automaton h a (record { state = d.state; effects = e.effects }) sequential in
              let fits = fits_after new returns (by_thread pending) more own foretold from.1 from.0 e from.4 old_one.1 in (
                configured_same (RestAfter s) (h ++ Call a.t a.k ∷ []) d.state e.effects d.effects same (back.1 (record { state = first.0; effects = from.0.effects }, from.1, old_one.0, from.3, all)),
                λ t x y took comes. fits t x y (same t ∙ took) comes,
              )),
        )

    pub followed_call : IsForeseen c s calls events new pending returns closure (h ++ Call a.t a.k ∷ []) more
    followed_call = record {
      automaton = is;
      seated = seated;
      pends = pends;
      returned = foretold;
      configurations = called;
      states = λ d holds. (let from = (closed d).0 holds in
          let state = was.states from.0 from.2 in
          states_valid c calls new is (by_thread pending) from.1 from.0 d (state.0, grows.states from.0.state state.0 state.1) (unforeseen new returns (by_thread pending) from.1 from.0 d from.4));
      answered = answered;
    }

  -- after a return
  module _ (h : List Event) (a : OpId) (outcome : Outcome) (more : List RunEvent) (table : Table) (before pending : List (Option ThreadCall)) (returns : List (Option SerialOutcome)) (list back : List Kept) (was : IsForeseen c s calls events table before returns list h (Back a.t outcome ∷ more)) (sequential : HasSequentialThreads (h ++ Return a.t a.k outcome ∷ []))
      (seated : AreSeated calls pending) (pends : (t : ℕ) → by_thread pending t ≡ pending_call (call_of calls events) (h ++ Return a.t a.k outcome ∷ []) t) (fewer : (t : ℕ) (call : ThreadCall) → by_thread pending t ≡ Some call → (t ≢ a.t) × (by_thread before t ≡ Some call)) (next : AreNext (Returns a.t (as_serial outcome)) list back) where
    returned : (d : Configuration Rest) → (IsConfiguration (RestAfter s) (h ++ Return a.t a.k outcome ∷ []) d × FitsReturns more d.effects) ↔ Represents table back d
    returned d =
        let law = return_is_configured (RestAfter s) h a outcome d sequential in (
          (λ (x, fits).
              let old_one = law.0 x in
              let from = (was.configurations old_one.0).0 (old_one.1, fits_before_return a.t outcome more old_one.0 d old_one.2 fits) in
              let e : Configuration ℕ = record { state = from.0.state; effects = d.effects } in
              let step : Returns a.t (as_serial outcome) from.0 e = record { state = refl; had = from.3 a.t ∙ old_one.2.had; gone = old_one.2.gone; others = λ u ne. old_one.2.others u ne ∙ sym (from.3 u) } in
              (e, (next e).1 (from.0, from.1, step), subst (InState table from.0.state) old_one.2.state from.2, λ t. refl)),
          (λ (e, holds, at, same).
              let from = (next e).0 holds in
              let mid : Configuration Rest = record { state = d.state; effects = from.0.effects } in
              let old_one : IsConfiguration (RestAfter s) h mid × FitsReturns (Back a.t outcome ∷ more) mid.effects = (was.configurations mid).1 (from.0, from.1, subst (λ x. InState table x d.state) (sym from.2.state) at, λ t. refl) in
              let step : Returns a.t (as_serial outcome) mid d = record { state = refl; had = from.2.had; gone = sym (same a.t) ∙ from.2.gone; others = λ u ne. sym (same u) ∙ from.2.others u ne } in
              (law.1 (mid, old_one.0, step), fits_after_return a.t outcome more mid d step old_one.1)),
        )

    pub followed_return : IsForeseen c s calls events table pending returns back (h ++ Return a.t a.k outcome ∷ []) more
    followed_return = record {
      automaton = was.automaton;
      seated = seated;
      pends = pends;
      returned = λ t call at. (let earlier = fewer t call at in
          was.returned t call earlier.1 ∙ other_return a.t t outcome more (λ e. earlier.0 (sym e)));
      configurations = returned;
      states = λ d holds. (let from = (next d).0 holds in
          let state = was.states from.0 from.1 in
          (state.0, ap (slice_get table.states.keys) (sym from.2.state) ∙ state.1));
      answered = λ d t call holds is none. (let from = (next d).0 holds in
          let earlier = fewer t call is in
          let free : from.0.effects t ≡ None = sym (from.2.others t earlier.0) ∙ none in
          subst (λ x. IsSome (recorded table (question_of x call))) from.2.state (was.answered from.0 t call from.1 earlier.1 free));
    }

-- at the end nothing is foreseen
pub all_followed : (c : Component) (s : State) (calls : List ACall) (events : List RunEvent) (table : Table) (pending : List (Option ThreadCall)) (returns : List (Option SerialOutcome)) (list : List Kept) (h : List Event) → IsForeseen c s calls events table pending returns list h [] → IsFollowed c s calls events table pending list h
all_followed c s calls events table pending returns list h was = record {
  automaton = was.automaton;
  seated = was.seated;
  pends = was.pends;
  configurations = λ d. ((λ x. (was.configurations d).0 (x, λ t a b took comes. absurd cc)), (λ x. ((was.configurations d).1 x).0));
  states = was.states;
  answered = was.answered;
}
