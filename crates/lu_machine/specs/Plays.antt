-- Where a schedule of a component and a matrix leads, and where it is infeasible.
use Rattle.std.specs.Prelude.{◌≡◌, ℕ, List, take, Some, slice_get}
use Rattle.lu_component.specs.Component.{Component}
use Rattle.lu_test.specs.declared.schedule.Move.{Move}
use Rattle.lu_test.specs.Matrix.{Matrix}
use Rattle.lu_machine.specs.declared.event.Event.{Event}
use Rattle.lu_machine.specs.States.{State}
use Rattle.lu_machine.specs.Steps.{IsFeasible}
use Rattle.lu_machine.specs.Starts.{IsStart}
use Rattle.lu_machine.specs.Runs.{Leads}

-- from the start the schedule leads to the state `end`, with this history
abbrev pub Plays : Component → Matrix → List Move → State → List Event → Type 0
Plays c matrix u end history = (start : State) × IsStart c matrix start × Leads start u end history

-- the first i moves lead somewhere, and there move i is not feasible
abbrev pub IsInfeasibleAt : Component → Matrix → List Move → ℕ → Type 0
IsInfeasibleAt c matrix u i =
    (end : State) × (history : List Event) × (move : Move)
    × Plays c matrix (take i u) end history × (slice_get u i ≡ Some move)
    × (IsFeasible end move → ⊥)
