-- What the monitor tells at the end of a run.
use Rattle.std.proofs.Common.{arith, ◌≡◌, ℕ, ◌<◌, List, [], ◌∷◌, length, Option, refl, subst, inl}
use Rattle.lu_component.specs.Component.{Component}
use Rattle.lu_test.specs.declared.matrix.Call.{Call as ACall}
use Rattle.lu_machine.specs.declared.position.Position.{Position}
use Rattle.lu_machine.specs.States.{State}
use Rattle.lu_history.specs.declared.serial.SerialOutcome.{SerialOutcome}
use Rattle.lu_client.specs.Alone.{Rest}
use Rattle.lu_serial_graph.specs.Playing.{IsAmong}
use Rattle.lu_linearization.specs.declared.configuration.Configuration.{Configuration as Kept}
use Rattle.lu_linearization.specs.Configurations.{Configuration, effects_in}
use Rattle.lu_linearization.specs.Monitors.{Holds, configuration_of}
use Rattle.lu_run.specs.declared.automaton.ThreadCall.{ThreadCall}
use Rattle.lu_run.specs.declared.run.RunEvent.{RunEvent}
use Rattle.lu_run.specs.declared.table.Table.{Table}
use Rattle.lu_run.specs.Asking.{rest_at}
use Rattle.lu_run.specs.Judging.{IsFollowed, IsForeseen, HasLinearization, Represents}
use Rattle.lu_run.specs.Runs.{history_of}

pub first_of : (positions : List Position) → 0 < length positions → (p : Position) × IsAmong p positions
first_of [] some = absurd (omega arith)
first_of (p ∷ positions) some = (p, inl refl)

module _ (c : Component) (s : State) (calls : List ACall) (events done : List RunEvent) (table : Table) (pending : List (Option ThreadCall)) where
  pub none_left : (list : List Kept) → list ≡ [] → IsFollowed c s calls events table pending list (history_of done) → HasLinearization s done → ⊥
  none_left list empty was (q, line) =
      let rest : Rest = line.member.0 in
      let d : Configuration Rest = record { state = rest; effects = effects_in q (history_of done) } in
      let found : Represents table list d = (was.configurations d).0 (record { q = q; linearizes = line; leads = line.member.1; effects = λ t. refl }) in
      subst (λ x. Holds x found.0) empty found.1

  pub some_foreseen : (returns : List (Option SerialOutcome)) (list : List Kept) (more : List RunEvent) → (list ≡ [] → ⊥) → IsForeseen c s calls events table pending returns list (history_of done) more → HasLinearization s done
  some_foreseen returns [] more some was = absurd (some refl)
  some_foreseen returns (one ∷ list) more some was =
      let d : Configuration ℕ = configuration_of one in
      let holds : Holds (one ∷ list) d = inl (record { state = refl; effects = λ t. refl }) in
      let state = was.states d holds in
      let first = first_of state.0.positions.items (was.automaton.states d.state state.0 state.1).some in
      let e : Configuration Rest = record { state = rest_at first.0; effects = d.effects } in
      let is = ((was.configurations e).1 (d, holds, (state.0, state.1, (first.0, first.1, refl)), λ t. refl)).0 in
      (is.q, is.linearizes)

  pub some_left : (list : List Kept) → (list ≡ [] → ⊥) → IsFollowed c s calls events table pending list (history_of done) → HasLinearization s done
  some_left [] some was = absurd (some refl)
  some_left (one ∷ list) some was =
      let d : Configuration ℕ = configuration_of one in
      let holds : Holds (one ∷ list) d = inl (record { state = refl; effects = λ t. refl }) in
      let state = was.states d holds in
      let first = first_of state.0.positions.items (was.automaton.states d.state state.0 state.1).some in
      let e : Configuration Rest = record { state = rest_at first.0; effects = d.effects } in
      let is = (was.configurations e).1 (d, holds, (state.0, state.1, (first.0, first.1, refl)), λ t. refl) in
      (is.q, is.linearizes)
