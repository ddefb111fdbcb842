-- Where a run starts.
use Rattle.std.proofs.Common.{arith, ◌≡◌, ℕ, zero, suc, List, [], ◌∷◌, length, replicate, Option, Some, None, slice_get, refl, sym, ◌∙◌, ap, subst, inl, inr}
use Rattle.std.specs.Prelude.{Bool, ◌++◌, if◌then◌else◌}
use Rattle.std.specs.List.{list_any}
use Rattle.std.proofs.lemmas.List.{get_or-replicate, get_or_past, length-replicate}
use Rattle.std.proofs.lemmas.Bool.{cases_lt}
use Rattle.std.proofs.lemmas.Option.{same_Some}
use Rattle.lu_component.specs.Component.{Component}
use Rattle.lu_test.specs.declared.matrix.Call.{Call as ACall}
use Rattle.lu_test.specs.Matrix.{Matrix, matrix_with}
use Rattle.lu_machine.specs.declared.position.Position.{Position}
use Rattle.lu_history.specs.declared.serial.SerialOutcome.{SerialOutcome}
use Rattle.lu_machine.specs.Positions.{CanStandAt, at_position}
use Rattle.lu_machine.specs.Starts.{IsStart, MakesAll, at_rest}
use Rattle.lu_machine.specs.States.{State}
use Rattle.lu_machine.proofs.Starting.{start_same}
use Rattle.lu_client.specs.Alone.{Rest, RestAfter, rest_of}
use Rattle.lu_client.proofs.Played.{ready, rest_starts}
use Rattle.lu_serial_graph.specs.Playing.{IsAmong}
use Rattle.lu_linearization.specs.declared.configuration.Configuration.{Configuration as Kept}
use Rattle.lu_linearization.specs.Configurations.{Configuration}
use Rattle.lu_linearization.specs.Monitors.{AreInitial, by_thread}
use Rattle.lu_linearization.proofs.Configured.{nothing_is_configured}
use Rattle.lu_run.specs.declared.automaton.ThreadCall.{ThreadCall}
use Rattle.lu_run.specs.declared.run.RunEvent.{RunEvent}
use Rattle.lu_run.specs.declared.table.Rests.{Rests}
use Rattle.lu_run.specs.declared.table.Table.{Table}
use Rattle.lu_run.specs.Asking.{AreRests, IsAtRest, at_start, menu_of, rest_at}
use Rattle.lu_run.specs.Judging.{InState, IsFirstTable, IsForeseen, IsStartPosition, StartsAt}
use Rattle.lu_run.specs.Following.{HasState, HasStates}
use Rattle.lu_run.specs.Offending.{AreReached}
use Rattle.lu_run.specs.Tables.{Grows, IsTable}
use Rattle.lu_run.proofs.Followed.{in_earlier, in_later}

-- the position of a machine at the start, with eight threads that make no calls
pub start_position : (c : Component) (setup : List ACall) (m : State) (p : Position) → IsStart c (matrix_with setup (replicate 8 [])) m → at_position m p ≡ m → CanStandAt m.component m.matrix p → IsStartPosition c setup p
start_position c setup m p start here stands = record {
  at_rest = record { threads = threads; stands = λ call. moved call };
  rest = λ matrix s same is.
      (let own : IsStart c (matrix_with setup (replicate 8 [])) (at_rest c (matrix_with setup (replicate 8 [])) is.end.cells is.end.locks) =
      record { end = is.end; made = subst (λ calls. MakesAll c calls (length calls) is.end) same is.made; is = refl } in
      let one : m ≡ at_rest c (matrix_with setup (replicate 8 [])) is.end.cells is.end.locks = start_same c (matrix_with setup (replicate 8 [])) m (at_rest c (matrix_with setup (replicate 8 [])) is.end.cells is.end.locks) start own in
      ap rest_of here ∙ (ap rest_of one ∙ sym (ap rest_of is.is)));
}
  where
    threads : p.threads.items ≡ replicate 8 at_start
    threads = ap (λ (x : State). x.threads) here ∙ ap (λ (x : State). x.threads) start.is

    component : m.component ≡ c
    component = ap (λ (x : State). x.component) start.is

    there : CanStandAt c m.matrix p
    there = subst (λ x. CanStandAt x m.matrix p) component stands

    moved : (call : ACall) → CanStandAt c (menu_of call) p
    moved call = record { cells = there.cells; locks = there.locks; threads = ap length threads; stand = there.stand; in_code = there.in_code }

module _ (c : Component) (calls : List ACall) (p : Position) (table : Table) (first : IsFirstTable p table) (good : IsAtRest c p) where
  positions : AreRests c first.state.positions.items
  positions = subst (AreRests c) (sym first.rests) (record { some = omega arith; each = λ q at. elim at as (λ _. IsAtRest c q) [ inl is ↦ subst (IsAtRest c) (sym is) good | inr none ↦ absurd none ] })

  one_state : (n : ℕ) (state : Rests) → slice_get table.states.keys n ≡ Some state → state ≡ first.state
  one_state n state at = by n (ap (λ xs. slice_get xs n) (sym first.states) ∙ at)
    where
      by : (n : ℕ) → slice_get (first.state ∷ []) n ≡ Some state → state ≡ first.state
      by zero is = sym (same_Some first.state state is)
      by (suc n) is = absurd cc

  pub first_is : IsTable c calls table
  first_is = record {
    states = λ n state at. subst (λ (x : Rests). AreRests c x.positions.items) (sym (one_state n state at)) positions;
    answers = λ q a known. absurd (let none = first.none q in cc);
  }

  state_zero : slice_get table.states.keys 0 ≡ Some first.state
  state_zero = ap (λ xs. slice_get xs 0) first.states

  in_first : (n : ℕ) (rest : Rest) → InState table n rest → rest ≡ rest_at p
  in_first n rest (state, at, (q, among, is)) =
      let same : state ≡ first.state = one_state n state at in
      let there : IsAmong q (p ∷ []) = subst (IsAmong q) first.rests (subst (λ (x : Rests). IsAmong q x.positions.items) same among) in
      elim there as (λ _. rest ≡ rest_at p) [ inl here ↦ sym is ∙ ap rest_at here | inr none ↦ absurd none ]

  first_has : (rest : Rest) → rest ≡ rest_at p → InState table 0 rest
  first_has rest is = (first.state, state_zero, (p, subst (IsAmong p) (sym first.rests) (inl refl), sym is))

  pub first_starts : (s : State) → rest_at p ≡ rest_of s → StartsAt table s
  first_starts s same rest = ((λ at. in_first 0 rest at ∙ same), (λ is. first_has rest (is ∙ sym same)))

  pub first_state : HasState table 0
  first_state = (first.state, state_zero)

  -- no call leads to the first state
  pub first_reached : (start : Rest) → rest_at p ≡ start → AreReached c calls start table
  first_reached start same n state at = ([], (λ rest has. sym (in_first n rest (state, at, has) ∙ same)))

-- a table that has grown starts where it did
pub starts_grown : (old new : Table) (s : State) → Grows old new → HasState old 0 → StartsAt old s → StartsAt new s
starts_grown old new s grows there starts rest = (
  (λ at. (starts rest).0 (in_earlier old new grows 0 rest there at)),
  (λ is. in_later old new grows 0 rest ((starts rest).1 is)),
)

-- before any event
module _ (c : Component) (calls : List ACall) (table : Table) (is : IsTable c calls table) (there : HasState table 0) where
  pub start_states : (list : List Kept) → AreInitial 0 list → HasStates table list
  start_states list initial d holds = (there.0, ap (slice_get table.states.keys) ((initial d).0 holds).0 ∙ there.1)

  pub start_foreseen : (s : State) (events : List RunEvent) (matrix : Matrix) (pending : List (Option ThreadCall)) (returns : List (Option SerialOutcome)) (list : List Kept) (more : List RunEvent) → IsStart c matrix s → StartsAt table s → ((t : ℕ) → by_thread pending t ≡ None) → AreInitial 0 list → IsForeseen c s calls events table pending returns list [] more
  start_foreseen s events matrix pending returns list more start starts none initial = record {
    automaton = is;
    seated = λ t call at. absurd (let e = none t in cc);
    pends = none;
    returned = λ t call at. absurd (let e = none t in cc);
    configurations = λ d.
        (let law = nothing_is_configured (RestAfter s) d in
        let ready_at = rest_starts c matrix s (ready c matrix s start) d.state in (
          (λ (x, fits). (let both = law.0 x in
              let e : Configuration ℕ = record { state = 0; effects = d.effects } in
              (e, (initial e).1 (refl, both.1), (starts d.state).1 (ready_at.0 both.0), λ t. refl))),
          (λ (e, holds, at, effects). (let both = (initial e).0 holds in
              let first : InState table 0 d.state = subst (λ x. InState table x d.state) both.0 at in (
                law.1 (ready_at.1 ((starts d.state).0 first), λ t. sym (effects t) ∙ both.1 t),
                λ t x y took comes. absurd (let e = both.1 t in let f = effects t in cc),
              ))),
        ));
    states = start_states list initial;
    answered = λ d t call holds at free. absurd (let e = none t in cc);
  }

pub first_keys : (keys : List Rests) (test : Rests → Bool) (new : Rests) → keys ≡ [] → (if list_any test keys then keys else keys ++ new ∷ []) ≡ new ∷ []
first_keys keys test new none = ap (λ xs. if list_any test xs then xs else xs ++ new ∷ []) none

pub no_pending : (t : ℕ) → by_thread {C = ThreadCall} (replicate 8 None) t ≡ None
no_pending t = elim (cases_lt t 8) as (λ _. by_thread {C = ThreadCall} (replicate 8 None) t ≡ None) [
  | inl lt ↦ get_or-replicate {A = Option ThreadCall} 8 t None None lt
  | inr past ↦ get_or_past {X = Option ThreadCall} (replicate 8 None) t None (omega (arith, past, length-replicate {A = Option ThreadCall} 8 None))
]
