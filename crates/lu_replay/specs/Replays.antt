-- What a schedule of a component and a matrix shows.
use Rattle.std.specs.Prelude.{List}
use Rattle.lu_component.specs.Component.{Component}
use Rattle.lu_test.specs.declared.schedule.Move.{Move}
use Rattle.lu_test.specs.Matrix.{Matrix}
use Rattle.lu_machine.specs.declared.event.Event.{Event}
use Rattle.lu_machine.specs.declared.event.Status.{Status}
use Rattle.lu_machine.specs.States.{State}
use Rattle.lu_machine.specs.Ends.{HasStatus}
pub use Rattle.lu_machine.specs.Plays.{Plays, IsInfeasibleAt}
use Rattle.lu_replay.specs.declared.fault.ReplayFault.{ReplayFault}
use Rattle.lu_replay.specs.declared.shown.Replay.{Replay}
use Rattle.lu_replay.specs.declared.fault.ReplayFault.TheVariants.{Infeasible, Memory}

-- from the start the schedule leads to a state of this status, with this history
abbrev pub PlaysToStatus : Component → Matrix → List Move → List Event → Status → Type 0
PlaysToStatus c matrix u history status =
    (end : State) × Plays c matrix u end history × HasStatus end status

-- the schedule leads to what is shown
abbrev pub IsReplay : Component → Matrix → List Move → Replay → Type 0
IsReplay c matrix u shown = PlaysToStatus c matrix u shown.history shown.status

-- the fault of the schedule; refused memory can come with any
abbrev pub IsReplayFault : Component → Matrix → List Move → ReplayFault → Type 0
IsReplayFault c matrix u (Infeasible i) = IsInfeasibleAt c matrix u i
IsReplayFault c matrix u Memory = Unit {0}
