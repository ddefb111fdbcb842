-- Which schedules of a component show a recorded history.
use Rattle.std.specs.Prelude.{◌≡◌, ◌⊎◌, ℕ, ◌<◌, ◌≤◌, List, length, IsTrue}
use Rattle.lu_component.specs.Component.{Component}
use Rattle.lu_test.specs.declared.schedule.Move.{Move}
use Rattle.lu_test.specs.Matrix.{Matrix}
use Rattle.lu_machine.specs.declared.event.Event.{Event}
use Rattle.lu_machine.specs.Ends.{IsStuck}
use Rattle.lu_machine.specs.Plays.{Plays}
use Rattle.lu_machine.specs.Starts.{FromEachStart}
use Rattle.lu_machine.specs.States.{State}
use Rattle.lu_history.specs.declared.operation.OpId.{OpId}
use Rattle.lu_history.specs.Histories.{IsPending}
use Rattle.lu_recorded.specs.declared.recorded.Recorded.{Recorded}
use Rattle.lu_conform.specs.declared.shown.Shown.{Shown}
use Rattle.lu_conform.specs.declared.shown.Shown.TheVariants.{By, ByNone, Undecided}
use Rattle.lu_conform.specs.Stages.{HasFewStages, Stage}

-- some call is pending
abbrev pub HasPendingCall : List Event → Type 0
HasPendingCall h = (a : OpId) × IsPending h a

-- the state is stuck where the recorded run was stuck, with a call pending
abbrev pub IsStuckAs : Recorded → State → Type 0
IsStuckAs recorded s = IsTrue recorded.is_stuck → HasPendingCall recorded.history → IsStuck s

-- u leads from the start to a state with this history, which is stuck where the recorded run was
abbrev pub IsShownBy : Component → Matrix → Recorded → List Move → Type 0
IsShownBy c matrix recorded u =
    (end : State) × Plays c matrix u end recorded.history × IsStuckAs recorded end

-- no schedule shows it, of any length
abbrev pub IsShownByNone : Component → Matrix → Recorded → Type 0
IsShownByNone c matrix recorded = (u : List Move) → IsShownBy c matrix recorded u → ⊥

-- u shows it, and no shorter schedule does
pub record IsShortest (c : Component) (matrix : Matrix) (recorded : Recorded)
    (u : List Move) : Type 0 where
  pub shows : IsShownBy c matrix recorded u
  pub shortest : (v : List Move) → IsShownBy c matrix recorded v → length u ≤ length v

-- there are more stages than this many
abbrev pub HasManyStages : Component → Matrix → Recorded → ℕ → Type 0
HasManyStages c matrix recorded most =
    FromEachStart c matrix (λ s. HasFewStages s recorded.history most → ⊥)

-- the shortest schedule that shows it has more moves than this many
abbrev pub IsShownLate : Component → Matrix → Recorded → ℕ → Type 0
IsShownLate c matrix recorded most =
    (u : List Move) × IsShortest c matrix recorded u × (most < length u)

-- more than 262,144 stages, or more than 4,112 moves in the shortest schedule
abbrev pub IsOutOfReach : Component → Matrix → Recorded → Type 0
IsOutOfReach c matrix recorded =
    HasManyStages c matrix recorded 262144 ⊎ IsShownLate c matrix recorded 4112

-- what is found of it
abbrev pub IsShown : Component → Matrix → Recorded → Shown → Type 0
IsShown c matrix recorded (By u) = IsShortest c matrix recorded u
IsShown c matrix recorded ByNone = IsShownByNone c matrix recorded
IsShown c matrix recorded Undecided = IsOutOfReach c matrix recorded

-- schedules that lead to the stage show it
abbrev pub IsEndOf : Recorded → Stage → Type 0
IsEndOf recorded stage =
    (stage.seen ≡ length recorded.history) × IsStuckAs recorded stage.state
