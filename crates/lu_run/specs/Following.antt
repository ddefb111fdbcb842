-- The monitor over the automaton, as far as it has been asked.
use Rattle.std.specs.Prelude.{◌≡◌, ℕ, ◌<◌, List, length, Option, Some, None, IsSome, slice_get}
use Rattle.lu_test.specs.declared.matrix.Call.{Call as ACall}
use Rattle.lu_history.specs.declared.serial.SerialOutcome.{SerialOutcome}
use Rattle.lu_linearization.specs.declared.configuration.Configuration.{Configuration as Kept}
use Rattle.lu_linearization.specs.Configurations.{Configuration}
use Rattle.lu_linearization.specs.Monitors.{Holds, by_thread}
use Rattle.lu_run.specs.declared.automaton.ThreadCall.{ThreadCall}
use Rattle.lu_run.specs.declared.table.Question.{Question}
use Rattle.lu_run.specs.declared.table.Rests.{Rests}
use Rattle.lu_run.specs.declared.table.Table.{Table}
use Rattle.lu_run.specs.Tables.{recorded}

-- the question what the call answers in this state
abbrev pub question_of : ℕ → ThreadCall → Question
question_of state call = record { state = state; thread = call.thread; call = call.call }

-- it is known that the call leads from this state, with this outcome, to this state
abbrev pub NextState : Table → ℕ → ThreadCall → SerialOutcome → ℕ → Type 0
NextState table state call outcome next =
    recorded table (question_of state call) ≡ Some (Some (outcome, next))

-- the question about a pending call that has not taken effect
abbrev pub asked : ℕ → Option ThreadCall → Option SerialOutcome → Option Question
asked state None effect = None
asked state (Some call) None = Some (question_of state call)
asked state (Some call) (Some outcome) = None

-- the question about the pending call of thread t in the configuration, if there is one
abbrev pub question_at : List (Option ThreadCall) → Kept → ℕ → Option Question
question_at pending one t = asked one.state (by_thread pending t) (by_thread one.effects t)

-- the answer to the question is known, if there is a question
abbrev pub HasAnswer : Table → Option Question → Type 0
HasAnswer table None = Unit {0}
HasAnswer table (Some question) = IsSome (recorded table question)

-- the answers to all questions in the configuration are known
abbrev pub IsKnownAt : Table → List (Option ThreadCall) → Kept → Type 0
IsKnownAt table pending one = (t : ℕ) → t < 8 → HasAnswer table (question_at pending one t)

-- the answers to all questions in the configurations are known
abbrev pub AllKnown : Table → List (Option ThreadCall) → List Kept → Type 0
AllKnown table pending list =
    (i : ℕ) (one : Kept) → slice_get list i ≡ Some one → IsKnownAt table pending one

-- each pending call is one of these calls, of one of eight threads
abbrev pub AreSeated : List ACall → List (Option ThreadCall) → Type 0
AreSeated calls pending =
    (t : ℕ) (call : ThreadCall) → by_thread pending t ≡ Some call
    → (t < 8) × (call.thread < 8) × (call.call < length calls)

-- the table has a state of this number
abbrev pub HasState : Table → ℕ → Type 0
HasState table n = (state : Rests) × (slice_get table.states.keys n ≡ Some state)

-- the table has the states of the configurations
abbrev pub HasStates : Table → List Kept → Type 0
HasStates table list = (d : Configuration ℕ) → Holds list d → HasState table d.state

-- the answers to all questions in the configurations are known
abbrev pub AreAnswered : Table → (ℕ → Option ThreadCall) → List Kept → Type 0
AreAnswered table pending list =
    (d : Configuration ℕ) (t : ℕ) (call : ThreadCall) → Holds list d → pending t ≡ Some call
    → d.effects t ≡ None → IsSome (recorded table (question_of d.state call))
