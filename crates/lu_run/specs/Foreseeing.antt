-- What pending calls return later in a run.
use Rattle.std.specs.Prelude.{◌≡◌, ℕ, ◌==◌, if◌then◌else◌, List, [], ◌∷◌, Option, Some, None, IfOk, Result}
use Rattle.lu_history.specs.declared.serial.SerialOutcome.{SerialOutcome}
use Rattle.lu_history.specs.Parts.{as_serial}
use Rattle.lu_linearization.specs.declared.configuration.Configuration.{Configuration as Kept}
use Rattle.lu_linearization.specs.Monitors.{AreClosed, by_thread}
use Rattle.lu_run.specs.declared.automaton.Foreseen.{Foreseen}
use Rattle.lu_run.specs.declared.automaton.ThreadCall.{ThreadCall}
use Rattle.lu_run.specs.declared.following.Follower.{Follower}
use Rattle.lu_run.specs.declared.run.RunEvent.{RunEvent}
use Rattle.lu_run.specs.declared.run.RunEvent.TheVariants.{Call as Calls, Return as Returns}
use Rattle.lu_run.specs.declared.table.Table.{Table}
use Rattle.lu_run.specs.Following.{NextState}

-- what the pending call of thread t returns in the events that follow; None if it does not return
abbrev pub next_return : ℕ → List RunEvent → Option SerialOutcome
next_return t [] = None
next_return t (Calls u n ∷ more) = next_return t more
next_return t (Returns u outcome ∷ more) =
    if u == t then Some (as_serial outcome) else next_return t more

-- each pending operation that has taken effect has the outcome that its call returns in the events
-- that follow, if it returns there
abbrev pub FitsReturns : List RunEvent → (ℕ → Option SerialOutcome) → Type 0
FitsReturns more effects =
    (t : ℕ) (a b : SerialOutcome) → effects t ≡ Some a → next_return t more ≡ Some b → a ≡ b

-- where it is known what the call returns, the outcome is this
abbrev pub Allows : Option SerialOutcome → SerialOutcome → Type 0
Allows None outcome = Unit {0}
Allows (Some known) outcome = outcome ≡ known

-- it is known that the call leads from this state, with this outcome, to this state, and its thread's
-- call may return this outcome
abbrev pub NextAllowed : Table → List (Option SerialOutcome) → ℕ → ThreadCall → SerialOutcome → ℕ
    → Type 0
NextAllowed table returns state call outcome next =
    NextState table state call outcome next × Allows (by_thread returns call.thread) outcome

abbrev pub NextForeseen : Foreseen → ℕ → ThreadCall → SerialOutcome → ℕ → Type 0
NextForeseen it state call outcome next =
    NextAllowed it.table.now it.returns.now state call outcome next

-- what is returned, if anything is, has the follower's configurations after a call of thread t, and
-- those that come of them, as far as its pending calls may return what it foresees
abbrev pub IfCloses : {E : Type 0} → Table → Follower → ℕ → Result (List Kept) E → Type 0
IfCloses table f t result =
    IfOk result (AreClosed (NextAllowed table f.returns) (by_thread f.pending) t f.monitor)
