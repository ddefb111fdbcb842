-- The next event of a run.
use Rattle.std.proofs.Common.{arith, ◌≡◌, ◌≢◌, ℕ, suc, ◌<◌, ◌==◌, List, [], ◌∷◌, ◌++◌, length, set, Option, Some, None, slice_get, refl, sym, ◌∙◌, ap, subst, inl, inr, append_assoc}
use Rattle.std.specs.Prelude.{IsSome, if◌then◌else◌}
use Rattle.std.proofs.lemmas.Bool.Decides.{eqb_tells}
use Rattle.std.proofs.lemmas.List.{get_or-set_other, get_or-set_same}
use Rattle.std.proofs.lemmas.Option.{same_Some}
use Rattle.lu_component.specs.Component.{Component}
use Rattle.lu_test.specs.declared.matrix.Call.{Call as ACall}
use Rattle.lu_machine.specs.declared.event.Event.TheVariants.{Call, Return}
use Rattle.lu_machine.specs.declared.event.Outcome.{Outcome}
use Rattle.lu_machine.specs.Starts.{IsStart}
use Rattle.lu_machine.specs.States.{State}
use Rattle.lu_history.specs.declared.operation.OpId.{OpId}
use Rattle.lu_history.specs.declared.serial.SerialOutcome.{SerialOutcome}
use Rattle.lu_history.specs.Histories.{calls as calls_count, outcomes}
use Rattle.lu_history.specs.Parts.{as_serial}
use Rattle.lu_linearization.specs.declared.configuration.Configuration.{Configuration as Kept}
use Rattle.lu_linearization.specs.Linearizations.{HasSequentialThreads}
use Rattle.lu_linearization.specs.Configurations.{AreSame, Configuration, Returns, pending_call}
use Rattle.lu_linearization.specs.Monitors.{AreClosed, AreNext, Holds, by_thread, configuration_of}
use Rattle.lu_linearization.proofs.Configured.{pending_goes_on}
use Rattle.lu_run.specs.declared.automaton.ThreadCall.{ThreadCall}
use Rattle.lu_run.specs.declared.run.RunEvent.{RunEvent}
use Rattle.lu_run.specs.declared.run.RunEvent.TheVariants.{Call as Calls, Return as Back}
use Rattle.lu_run.specs.declared.table.Table.{Table}
use Rattle.lu_run.specs.Tables.{Grows, IsTable, recorded}
use Rattle.lu_run.specs.Following.{AllKnown, AreAnswered, AreSeated, HasAnswer, HasStates, asked, question_of}
use Rattle.lu_run.specs.Foreseeing.{NextAllowed, next_return}
use Rattle.lu_run.specs.Judging.{IsForeseen, call_of}
use Rattle.lu_run.specs.Runs.{IsRun, history_of, matrix_of, next_event}
use Rattle.lu_run.proofs.Automated.{automaton}
use Rattle.lu_run.proofs.Followed.{followed_call, followed_return}
use Rattle.lu_run.proofs.Histories.{calls_next, history_push, sequential_front}

-- ---- what is known

holds_kept : (list : List Kept) (d : Configuration ℕ) → Holds list d → (i : ℕ) × (one : Kept) × (slice_get list i ≡ Some one) × AreSame (configuration_of one) d
holds_kept [] d holds = absurd holds
holds_kept (one ∷ list) d (inl same) = (0, one, refl, same)
holds_kept (one ∷ list) d (inr holds) = (let r = holds_kept list d holds in (suc r.0, r.1, r.2, r.3))

pub all_answered : (calls : List ACall) (table : Table) (pending : List (Option ThreadCall)) (list : List Kept) → AreSeated calls pending → AllKnown table pending list → AreAnswered table (by_thread pending) list
all_answered calls table pending list seated known d t call holds is none =
    let kept = holds_kept list d holds in
    let answer : HasAnswer table (asked kept.1.state (by_thread pending t) (by_thread kept.1.effects t)) = known kept.0 kept.1 kept.2 t (seated t call is).0 in
    let free : by_thread kept.1.effects t ≡ None = kept.3.effects t ∙ none in
    let first : HasAnswer table (asked kept.1.state (Some call) (by_thread kept.1.effects t)) = subst (λ x. HasAnswer table (asked kept.1.state x (by_thread kept.1.effects t))) is answer in
    let second : HasAnswer table (asked kept.1.state (Some call) None) = subst (λ x. HasAnswer table (asked kept.1.state (Some call) x)) free first in
    subst (λ x. IsSome (recorded table (question_of x call))) kept.3.state second

-- ---- the pending calls

module _ (before : List (Option ThreadCall)) (t : ℕ) (long : length before ≡ 8) (seat : t < 8) where
  own : (v : Option ThreadCall) → by_thread (set before t v) t ≡ v
  own v = get_or-set_same before t v None (omega (arith, long, seat))

  other : (v : Option ThreadCall) (u : ℕ) → u ≢ t → by_thread (set before t v) u ≡ by_thread before u
  other v u ne = get_or-set_other before t u v None ne

  pub fewer : (u : ℕ) (call : ThreadCall) → by_thread (set before t None) u ≡ Some call → (u ≢ t) × (by_thread before u ≡ Some call)
  fewer u call is = elim (eqb_tells t u) as (λ _. (u ≢ t) × (by_thread before u ≡ Some call)) [
    | inl same ↦ absurd (let none : by_thread (set before t None) u ≡ None = subst (λ x. by_thread (set before t None) x ≡ None) same.1 (own None) in cc)
    | inr apart ↦ (let ne : u ≢ t = (λ e. apart.1 (sym e)) in (ne, sym (other None u ne) ∙ is))
  ]

  pub seats : (calls : List ACall) (n : ℕ) → n < length calls → AreSeated calls before → AreSeated calls (set before t (Some (record { thread = t; call = n })))
  seats calls n within was u call is = elim (eqb_tells t u) as (λ _. (u < 8) × (call.thread < 8) × (call.call < length calls)) [
    | inl same ↦
        (let new : ThreadCall = record { thread = t; call = n } in
        let here : by_thread (set before t (Some new)) u ≡ Some new = subst (λ x. by_thread (set before t (Some new)) x ≡ Some new) same.1 (own (Some new)) in
        let which : new ≡ call = same_Some new call (sym here ∙ is) in
        (let own : (new.thread < 8) × (new.call < length calls) = (seat, within) in
        let there = subst (λ (x : ThreadCall). (x.thread < 8) × (x.call < length calls)) which own in
        (subst (λ x. x < 8) same.1 seat, there.0, there.1)))
    | inr apart ↦ was u call (sym (other (Some (record { thread = t; call = n })) u (λ e. apart.1 (sym e))) ∙ is)
  ]

  pub seats_fewer : (calls : List ACall) → AreSeated calls before → AreSeated calls (set before t None)
  seats_fewer calls was u call is = was u call (fewer u call is).1

  pub changed : (v : Option ThreadCall) (after : ℕ → Option ThreadCall) (old : ℕ → Option ThreadCall) → ((u : ℕ) → by_thread before u ≡ old u) → ((u : ℕ) → after u ≡ (if t == u then v else old u)) → (u : ℕ) → by_thread (set before t v) u ≡ after u
  changed v after old was law u = elim (eqb_tells t u) as (λ _. by_thread (set before t v) u ≡ after u) [
    | inl same ↦ subst (λ x. by_thread (set before t v) x ≡ v) same.1 (own v) ∙ sym (law u ∙ ap (λ b. if b then v else old u) same.0)
    | inr apart ↦ other v u (λ e. apart.1 (sym e)) ∙ (was u ∙ sym (law u ∙ ap (λ b. if b then v else old u) apart.0))
  ]

-- what the pending calls return, with that of the new call
told_now : (before : List (Option ThreadCall)) (were : List (Option SerialOutcome)) (t : ℕ) → length before ≡ 8 → length were ≡ 8 → t < 8 → (n : ℕ) (seen : List RunEvent) → ((u : ℕ) (x : ThreadCall) → by_thread before u ≡ Some x → by_thread were u ≡ next_return u seen)
    → (u : ℕ) (x : ThreadCall) → by_thread (set before t (Some (record { thread = t; call = n }))) u ≡ Some x → by_thread (set were t (next_return t seen)) u ≡ next_return u seen
told_now before were t long short seat n seen was u x at = elim (eqb_tells t u) as (λ _. by_thread (set were t (next_return t seen)) u ≡ next_return u seen) [
  | inl here ↦ subst (λ v. by_thread (set were t (next_return t seen)) v ≡ next_return v seen) here.1 (get_or-set_same were t (next_return t seen) None (omega (arith, short, seat)))
  | inr apart ↦
      (let ne : u ≢ t = (λ e. apart.1 (sym e)) in
      get_or-set_other were t u (next_return t seen) None ne ∙ was u x (sym (get_or-set_other before t u (Some (record { thread = t; call = n })) None ne) ∙ at))
]

-- ---- one event more

module _ (c : Component) (setup calls : List ACall) (events done more : List RunEvent) (s : State) (start : IsStart c (matrix_of setup calls events) s) (run : IsRun calls events) where
  pub one_more : (e : RunEvent) → events ≡ done ++ e ∷ more → HasSequentialThreads (history_of done ++ next_event (history_of done) e ∷ [])
  one_more e is = subst HasSequentialThreads (history_push [] done e) (sequential_front (done ++ e ∷ []) more (subst (λ x. HasSequentialThreads (history_of x)) (is ∙ sym (append_assoc done (e ∷ []) more)) run.sequential))

  -- with what comes after the events that are foreseen
  parts : (e : RunEvent) (seen rest : List RunEvent) → events ≡ (done ++ e ∷ seen) ++ rest → more ≡ seen ++ rest → events ≡ done ++ e ∷ more
  parts e seen rest is all = is ∙ (append_assoc done (e ∷ seen) rest ∙ ap (λ x. done ++ e ∷ x) (sym all))

  pub advanced_call : (t n : ℕ) (seen rest : List RunEvent) (old new : Table) (before pending : List (Option ThreadCall)) (were returns : List (Option SerialOutcome)) (list closure : List Kept) → events ≡ (done ++ Calls t n ∷ seen) ++ rest → more ≡ seen ++ rest → IsForeseen c s calls events old before were list (history_of done) (Calls t n ∷ seen) → IsTable c calls new → Grows old new
      → pending ≡ set before t (Some (record { thread = t; call = n })) → returns ≡ set were t (next_return t seen) → length before ≡ 8 → length were ≡ 8 → t < 8 → n < length calls → AreClosed (NextAllowed new returns) (by_thread pending) t list closure → AreAnswered new (by_thread pending) closure → IsForeseen c s calls events new pending returns closure (history_of (done ++ Calls t n ∷ [])) seen
  advanced_call t n seen rest old new before pending were returns list closure cut all was table grows makes tells long short seat within closed known =
      let h = history_of done in
      let a : OpId = record { t = t; k = calls_count t h } in
      let is = parts (Calls t n) seen rest cut all in
      let sequential : HasSequentialThreads (h ++ Call a.t a.k ∷ []) = one_more (Calls t n) is in
      let which : call_of calls events a ≡ record { thread = t; call = n } = ap (λ x. call_of calls x a) is ∙ calls_next calls done more t n in
      let call : ThreadCall = record { thread = t; call = n } in
      let law : (u : ℕ) → pending_call (call_of calls events) (h ++ Call a.t a.k ∷ []) u ≡ (if t == u then Some call else pending_call (call_of calls events) h u) =
      (λ u. (pending_goes_on (call_of calls events) h a u).0 sequential ∙ ap (λ x. if t == u then Some x else pending_call (call_of calls events) h u) which) in
      let pends : (u : ℕ) → by_thread pending u ≡ pending_call (call_of calls events) (h ++ Call a.t a.k ∷ []) u =
      (λ u. ap (λ x. by_thread x u) makes ∙ changed before t long seat (Some call) (pending_call (call_of calls events) (h ++ Call a.t a.k ∷ [])) (pending_call (call_of calls events) h) was.pends law u) in
      let seated : AreSeated calls pending = subst (AreSeated calls) (sym makes) (seats before t long seat calls n within was.seated) in
      let foretold : (u : ℕ) (x : ThreadCall) → by_thread pending u ≡ Some x → by_thread returns u ≡ next_return u seen =
      (λ u x at. ap (λ y. by_thread y u) tells ∙ told_now before were t long short seat n seen was.returned u x (ap (λ y. by_thread y u) (sym makes) ∙ at)) in
      subst (λ x. IsForeseen c s calls events new pending returns closure x seen) (sym (history_push [] done (Calls t n)))
      (followed_call c s calls events (automaton c setup calls events run s start) h a n seen old new before pending were returns list closure was sequential table grows seated pends foretold closed known)

  pub advanced_return : (t : ℕ) (outcome : Outcome) (seen rest : List RunEvent) (table : Table) (before pending : List (Option ThreadCall)) (returns : List (Option SerialOutcome)) (list back : List Kept) → events ≡ (done ++ Back t outcome ∷ seen) ++ rest → more ≡ seen ++ rest → IsForeseen c s calls events table before returns list (history_of done) (Back t outcome ∷ seen)
      → pending ≡ set before t None → length before ≡ 8 → t < 8 → AreNext (Returns t (as_serial outcome)) list back → IsForeseen c s calls events table pending returns back (history_of (done ++ Back t outcome ∷ [])) seen
  advanced_return t outcome seen rest table before pending returns list back cut all was makes long seat next =
      let h = history_of done in
      let a : OpId = record { t = t; k = length (outcomes t h) } in
      let sequential : HasSequentialThreads (h ++ Return a.t a.k outcome ∷ []) = one_more (Back t outcome) (parts (Back t outcome) seen rest cut all) in
      let seated : AreSeated calls pending = subst (AreSeated calls) (sym makes) (seats_fewer before t long seat calls was.seated) in
      let pends : (u : ℕ) → by_thread pending u ≡ pending_call (call_of calls events) (h ++ Return a.t a.k outcome ∷ []) u =
      (λ u. ap (λ x. by_thread x u) makes ∙ changed before t long seat None (pending_call (call_of calls events) (h ++ Return a.t a.k outcome ∷ [])) (pending_call (call_of calls events) h) was.pends (λ v. (pending_goes_on (call_of calls events) h a v).1 outcome sequential) u) in
      subst (λ x. IsForeseen c s calls events table pending returns back x seen) (sym (history_push [] done (Back t outcome)))
      (followed_return c s calls events (automaton c setup calls events run s start) h a outcome seen table before pending returns list back was sequential seated pends
      (λ u call there. fewer before t long seat u call (ap (λ x. by_thread x u) (sym makes) ∙ there)) next)

-- the configurations after a return have states of those before it
pub states_back : (table : Table) (t : ℕ) (outcome : SerialOutcome) (list back : List Kept) → HasStates table list → AreNext (Returns t outcome) list back → HasStates table back
states_back table t outcome list back was next d holds =
    let from = (next d).0 holds in
    let state = was from.0 from.1 in
    (state.0, ap (slice_get table.states.keys) (sym from.2.state) ∙ state.1)
