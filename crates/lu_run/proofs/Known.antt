-- What is known of the questions in configurations, as the table grows.
use Rattle.std.proofs.Common.{arith, ◌≡◌, ℕ, zero, suc, ◌<◌, ◌+◌, Bool, true, false, List, [], ◌∷◌, Option, Some, None, slice_get, refl, sym, ◌∙◌, ap, subst, inl, inr}
use Rattle.std.specs.Prelude.{IsSome, ◌||◌}
use Rattle.std.proofs.lemmas.Bool.{cases_lt}
use Rattle.std.proofs.lemmas.Option.{same_Some}
use Rattle.lu_component.specs.Component.{Component}
use Rattle.lu_test.specs.declared.matrix.Call.{Call as ACall}
use Rattle.lu_history.specs.declared.serial.SerialOutcome.{SerialOutcome}
use Rattle.lu_linearization.specs.declared.configuration.Configuration.{Configuration as Kept}
use Rattle.lu_linearization.specs.Monitors.{AreClosed, Holds, by_thread, configuration_of}
use Rattle.lu_run.specs.declared.automaton.ThreadCall.{ThreadCall}
use Rattle.lu_run.specs.declared.table.Question.{Question}
use Rattle.lu_run.specs.declared.table.Table.{Table}
use Rattle.lu_run.specs.Tables.{Answer, Grows, IsTable, recorded}
use Rattle.lu_run.specs.Following.{HasAnswer, HasState, HasStates, IsKnownAt, asked, question_at}
use Rattle.lu_run.specs.Foreseeing.{NextAllowed}
use Rattle.lu_run.proofs.Foresight.{unforeseen}
use Rattle.lu_run.proofs.Simulated.{states_valid}

pub has_later : (old new : Table) → Grows old new → (n : ℕ) → HasState old n → HasState new n
has_later old new grows n (state, at) = (state, grows.states n state at)

pub asked_state : (state : ℕ) (call : Option ThreadCall) (effect : Option SerialOutcome) (q : Question) → asked state call effect ≡ Some q → q.state ≡ state
asked_state state None effect q is = absurd cc
asked_state state (Some call) None q is = sym (ap (λ (x : Question). x.state) (same_Some (record { state = state; thread = call.thread; call = call.call }) q is))
asked_state state (Some call) (Some outcome) q is = absurd cc

recorded_later : (old new : Table) → Grows old new → (q : Question) → IsSome (recorded old q) → IsSome (recorded new q)
recorded_later old new grows q known = by (recorded old q) refl known
  where
    by : (o : Option Answer) → recorded old q ≡ o → IsSome o → IsSome (recorded new q)
    by None e none = absurd cc
    by (Some answer) e some = subst IsSome (sym (grows.answers q answer e)) some

pub answer_later : (old new : Table) → Grows old new → (q : Option Question) → HasAnswer old q → HasAnswer new q
answer_later old new grows None is = tt
answer_later old new grows (Some q) is = recorded_later old new grows q is

pub known_later : (old new : Table) → Grows old new → (pending : List (Option ThreadCall)) (one : Kept) → IsKnownAt old pending one → IsKnownAt new pending one
known_later old new grows pending one known t lt = answer_later old new grows (question_at pending one t) (known t lt)

-- the answers up to thread t, and that of thread t
pub known_next : (table : Table) (pending : List (Option ThreadCall)) (one : Kept) (t : ℕ) → ((u : ℕ) → u < t → HasAnswer table (question_at pending one u)) → HasAnswer table (question_at pending one t) → (u : ℕ) → u < t + 1 → HasAnswer table (question_at pending one u)
known_next table pending one t before here u lt = elim (cases_lt u t) as (λ _. HasAnswer table (question_at pending one u)) [
  | inl less ↦ before u less
  | inr past ↦ (let same : t ≡ u = omega (arith, lt, past) in subst (λ x. HasAnswer table (question_at pending one x)) same here)
]

-- nothing is new
pub neither : (a b : Bool) → (a || b) ≡ false → (a ≡ false) × (b ≡ false)
neither true b e = absurd cc
neither false b e = (refl, e)

-- ---- lists of configurations

pub holds_at : (list : List Kept) (i : ℕ) (one : Kept) → slice_get list i ≡ Some one → Holds list (configuration_of one)
holds_at [] i one at = absurd cc
holds_at (x ∷ list) zero one at = inl (record { state = ap (λ (y : Kept). y.state) (same_Some x one at); effects = λ t. ap (λ (y : Kept). by_thread y.effects t) (same_Some x one at) })
holds_at (x ∷ list) (suc i) one at = inr (holds_at list i one at)

pub all_next : (table : Table) (pending : List (Option ThreadCall)) (list : List Kept) (i : ℕ) → ((j : ℕ) (one : Kept) → j < i → slice_get list j ≡ Some one → IsKnownAt table pending one) → (here : Kept) → slice_get list i ≡ Some here → IsKnownAt table pending here
    → (j : ℕ) (one : Kept) → j < i + 1 → slice_get list j ≡ Some one → IsKnownAt table pending one
all_next table pending list i before here at known j one lt is = elim (cases_lt j i) as (λ _. IsKnownAt table pending one) [
  | inl less ↦ before j one less is
  | inr past ↦
      (let same : j ≡ i = omega (arith, lt, past) in
      let which : here ≡ one = same_Some here one (sym at ∙ (ap (slice_get list) (sym same) ∙ is)) in
      subst (IsKnownAt table pending) which known)
]

-- what comes of configurations with states of the table has such states too
pub states_closed : (c : Component) (calls : List ACall) (old new : Table) (pending : ℕ → Option ThreadCall) (returns : List (Option SerialOutcome)) (t : ℕ) (list closure : List Kept) → HasStates old list → Grows old new → IsTable c calls new → AreClosed (NextAllowed new returns) pending t list closure → HasStates new closure
states_closed c calls old new pending returns t list closure has grows is closed d holds =
    let from = (closed d).0 holds in
    states_valid c calls new is pending from.1 from.0 d (has_later old new grows from.0.state (has from.0 from.2)) (unforeseen new returns pending from.1 from.0 d from.4)
