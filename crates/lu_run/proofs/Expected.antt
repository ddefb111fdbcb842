-- What the call of a failing event is expected to return.
use Rattle.std.proofs.Common.{◌≡◌, ℕ, ◌<◌, List, [], ◌∷◌, ◌++◌, take, drop, Option, Some, None, slice_get, refl, sym, ◌∙◌, ap, inl, inr, append_assoc}
use Rattle.std.proofs.lemmas.List.{take-append-drop}
use Rattle.lu_component.specs.Component.{Component}
use Rattle.lu_test.specs.declared.matrix.Call.{Call as ACall}
use Rattle.lu_machine.specs.States.{State}
use Rattle.lu_history.specs.declared.serial.SerialOutcome.{SerialOutcome}
use Rattle.lu_client.specs.Alone.{Rest}
use Rattle.lu_linearization.specs.declared.configuration.Configuration.{Configuration as Kept}
use Rattle.lu_linearization.specs.Configurations.{Configuration}
use Rattle.lu_linearization.specs.Monitors.{Holds, by_thread, configuration_of}
use Rattle.lu_run.specs.declared.automaton.ThreadCall.{ThreadCall}
use Rattle.lu_run.specs.declared.run.RunEvent.{RunEvent}
use Rattle.lu_run.specs.declared.run.RunEvent.TheVariants.{Call as Calls, Return as Returns}
use Rattle.lu_run.specs.declared.table.Table.{Table}
use Rattle.lu_run.specs.Asking.{rest_at}
use Rattle.lu_run.specs.Following.{HasState}
use Rattle.lu_run.specs.Judging.{IsExpected, IsFailure, IsFirstWithout, IsFollowed, OfEachRun, TellsLost, first_effect, first_some, thread_of}
use Rattle.lu_run.specs.Runs.{IsEventOf, history_of}
use Rattle.lu_run.specs.Tables.{Grows}
use Rattle.lu_run.proofs.Beginning.{starts_grown}
use Rattle.lu_run.proofs.Finished.{first_of}

effect_held : (t : ℕ) (list : List Kept) (o : SerialOutcome) → first_effect t list ≡ Some o → (d : Configuration ℕ) × Holds list d × (d.effects t ≡ Some o)
effect_held t [] o is = absurd cc
effect_held t (one ∷ list) o is = by (by_thread one.effects t) refl (effect_held t list o)
  where
    by : (v : Option SerialOutcome) → by_thread one.effects t ≡ v → (first_effect t list ≡ Some o → (d : Configuration ℕ) × Holds list d × (d.effects t ≡ Some o)) → (d : Configuration ℕ) × Holds (one ∷ list) d × (d.effects t ≡ Some o)
    by None at more =
        let rest = more (ap (λ v. first_some v (first_effect t list)) (sym at) ∙ is) in
        (rest.0, inr rest.1, rest.2)
    by (Some x) at more =
        let d : Configuration ℕ = configuration_of one in
        (d, inl (record { state = refl; effects = λ u. refl }), at ∙ (ap (λ v. first_some v (first_effect t list)) (sym at) ∙ is))

none_later : (v : Option SerialOutcome) (later : Option SerialOutcome) → first_some v later ≡ None → later ≡ None
none_later None later is = is
none_later (Some x) later is = absurd cc

effect_none : (t : ℕ) (list : List Kept) → first_effect t list ≡ None → (d : Configuration ℕ) → Holds list d → (o : SerialOutcome) → d.effects t ≡ Some o → ⊥
effect_none t [] is d holds o at = holds
effect_none t (one ∷ list) is d (inl same) o at =
    let there : by_thread one.effects t ≡ Some o = same.effects t ∙ at in
    let e = ap (λ v. first_some v (first_effect t list)) (sym there) ∙ is in
    cc
effect_none t (one ∷ list) is d (inr holds) o at = effect_none t list (none_later (by_thread one.effects t) (first_effect t list) is) d holds o at

pub expected_told : (c : Component) (s : State) (calls : List ACall) (events part : List RunEvent) (table : Table) (pending : List (Option ThreadCall)) (list : List Kept) → IsFollowed c s calls events table pending list (history_of part) → (t : ℕ) (o : Option SerialOutcome) → o ≡ first_effect t list → IsExpected s part t o
expected_told c s calls events part table pending list was t None is = λ outcome may.
    let there = (was.configurations may.0).0 may.1 in
    effect_none t list (sym is) there.0 there.1 outcome (there.3 t ∙ may.2)
expected_told c s calls events part table pending list was t (Some outcome) is =
    let held = effect_held t list outcome (sym is) in
    let d : Configuration ℕ = held.0 in
    let state = was.states d held.1 in
    let first = first_of state.0.positions.items (was.automaton.states d.state state.0 state.1).some in
    let e : Configuration Rest = record { state = rest_at first.0; effects = d.effects } in
    (e, (was.configurations e).1 (d, held.1, (state.0, state.1, (first.0, first.1, refl)), λ u. refl), held.2)

pub thread_below : (calls : List ACall) (e : RunEvent) → IsEventOf calls e → thread_of e < 8
thread_below calls (Calls t n) is = is.0
thread_below calls (Returns t outcome) is = is

-- the events before event number n are the beginning of a run that begins with all of them
cut_before : (n : ℕ) (part all rest : List RunEvent) → all ≡ part ++ rest → all ≡ take n part ++ (drop n part ++ rest)
cut_before n part all rest cut = cut ∙ (ap (λ x. x ++ rest) (sym (take-append-drop n part)) ∙ append_assoc (take n part) (drop n part) rest)

-- what is found of the first event after which there is no linearization, and of what is expected there
pub failure_told : (c : Component) (calls : List ACall) (table now : Table) → Grows table now → HasState table 0 → (part : List RunEvent) (kept n : ℕ) (e : RunEvent) (expected : Option SerialOutcome) → slice_get part n ≡ Some e
    → OfEachRun c calls table part (λ s all. TellsLost s part (Some kept) → IsFirstWithout s part n)
    → OfEachRun c calls now (take n part) (λ s all. IsExpected s (take n part) (thread_of e) expected)
    → OfEachRun c calls table part (λ s all. TellsLost s part (Some kept) → IsFailure s part (record { event = n; expected = expected }))
failure_told c calls table now grows there part kept n e expected at first expects setup all rest s start starts run cut given = (
  first setup all rest s start starts run cut given,
  (e, at, expects setup all (drop n part ++ rest) s start (starts_grown table now s grows there starts) run (cut_before n part all rest cut)),
)
