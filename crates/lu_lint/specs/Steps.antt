-- Serial steps: the moves of serial runs, each counted once for each schedule that ends with it.
use Rattle.std.specs.Prelude.{◌≡◌, ◌≢◌, ℕ, ◌+◌, ◌-◌, ◌<◌, ◌≤◌, Bool, true, List, [], ◌∷◌, Option, Some, None, Result, IfOk, length}
use Rattle.lu_test.specs.declared.schedule.Move.{Move}
use Rattle.lu_machine.specs.declared.event.Event.{Event}
use Rattle.lu_machine.specs.declared.event.Event.TheVariants.{Call, Return}
use Rattle.lu_machine.specs.States.{State}
use Rattle.lu_machine.specs.Steps.{Step}
use Rattle.lu_machine.specs.declared.test.Test.{Test}
use Rattle.lu_machine.specs.Tests.{FromEachStartOf}
use Rattle.lu_serial_graph.specs.Playing.{IsAmong}
use Rattle.lu_lint.specs.declared.step_count.OpenCall.{OpenCall}
use Rattle.lu_lint.specs.declared.step_count.TheConstants.{MOST_STEPS}

-- the operation that is open after a move of thread t with this event, or with none: after its call
-- it may take `bound` moves
abbrev pub open_after : ℕ → Option OpenCall → ℕ → Option Event → Option OpenCall
open_after bound current t (Some (Call u k)) = Some (record { thread = t; left = bound })
open_after bound current t (Some (Return u k outcome)) = None
open_after bound None t None = None
open_after bound (Some o) t None = Some (record { thread = o.thread; left = o.left - 1 })

-- a move that goes on serially: while an operation is open, one that it may still take
abbrev pub MayMove : Option OpenCall → ℕ → Type 0
MayMove None t = Unit {0}
MayMove (Some o) t = (t ≡ o.thread) × (0 < o.left)

-- the threads from the first to before the end may move
abbrev pub AreTurns : Option OpenCall → ℕ → ℕ → Type 0
AreTurns current first end = (t : ℕ) → first ≤ t → t < end → MayMove current t

-- From s, where this operation is open or none, the moves can be made and go on serially.
abbrev pub GoOn : ℕ → State → Option OpenCall → List Move → Type 0
GoOn bound s current [] = Unit {0}
GoOn bound s current (m ∷ u) =
    MayMove current m.thread
    × (next : State) × (event : Option Event) × Step s m next event
    × GoOn bound next (open_after bound current m.thread event) u

-- no two of these schedules are equal
abbrev pub AreApart : List (List Move) → Type 0
AreApart [] = Unit {0}
AreApart (u ∷ others) = (IsAmong u others → ⊥) × AreApart others

-- n different schedules go on serially from s, each with at least one move
pub record HasSteps (bound : ℕ) (s : State) (current : Option OpenCall) (n : ℕ) : Type 0 where
  pub schedules : List (List Move)
  pub count : length schedules ≡ n
  pub apart : AreApart schedules
  pub go_on : (u : List Move) → IsAmong u schedules → (u ≢ []) × GoOn bound s current u

-- the serial runs from s have more than n steps
abbrev pub HasMoreSteps : ℕ → ℕ → State → Type 0
HasMoreSteps bound n s = HasSteps bound s None (n + 1)

-- where it says so, the serial runs of the test have too many steps to look at them
abbrev pub FindsManySteps : {E : Type 0} → Result Bool E → Test → ℕ → Type 0
FindsManySteps result test bound =
    IfOk result (λ many. many ≡ true → FromEachStartOf test (HasMoreSteps bound MOST_STEPS))
