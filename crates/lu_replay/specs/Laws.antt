-- Laws of replays and reports.
use Rattle.std.specs.Prelude.{◌≡◌, ◌⊎◌, ℕ, List}
use Rattle.lu_component.specs.Component.{Component}
use Rattle.lu_test.specs.declared.schedule.Move.{Move}
use Rattle.lu_test.specs.Matrix.{Matrix}
use Rattle.lu_machine.specs.declared.event.Event.{Event}
use Rattle.lu_machine.specs.declared.event.Status.{Status}
use Rattle.lu_machine.specs.States.{State}
use Rattle.lu_machine.specs.Starts.{Settles}
use Rattle.lu_machine.specs.Ends.{IsEnded}
use Rattle.lu_machine.specs.Schedules.{BeginsWith, Reaches, IsSchedule}
use Rattle.lu_history.specs.declared.serial.SerialOp.{SerialOp}
use Rattle.lu_witness.specs.Witnesses.{IsMember}
use Rattle.lu_report.specs.declared.report.Report.{Report}
use Rattle.lu_replay.specs.Replays.{PlaysToStatus, IsInfeasibleAt}
use Rattle.lu_replay.specs.Reports.{IsReport, IsReportAgainst}
use Rattle.lu_replay.specs.Confirmed.{IsConfirmed, IsConfirmedAgainst}
use Rattle.lu_report.specs.Parts.{IsPass}

-- a schedule shows one history and one status
abbrev pub OneReplay : Type 0
OneReplay =
    (c : Component) (matrix : Matrix) (u : List Move) (h k : List Event) (a b : Status) →
    PlaysToStatus c matrix u h a → PlaysToStatus c matrix u k b → (h ≡ k) × (a ≡ b)

-- a schedule that shows something is infeasible nowhere
abbrev pub ReplayOrFault : Type 0
ReplayOrFault =
    (c : Component) (matrix : Matrix) (u : List Move) (h : List Event) (a : Status) (i : ℕ) →
    PlaysToStatus c matrix u h a → IsInfeasibleAt c matrix u i → ⊥

-- a schedule is infeasible at one move at most
abbrev pub OneFault : Type 0
OneFault =
    (c : Component) (matrix : Matrix) (u : List Move) (i j : ℕ) →
    IsInfeasibleAt c matrix u i → IsInfeasibleAt c matrix u j → i ≡ j

-- a schedule shows something, or is infeasible at some move
abbrev pub AllReplayed : Type 0
AllReplayed =
    (c : Component) (matrix : Matrix) (u : List Move) → Settles c matrix →
    ((h : List Event) × (a : Status) × PlaysToStatus c matrix u h a)
    ⊎ ((i : ℕ) × IsInfeasibleAt c matrix u i)

-- no ended schedule is a beginning of another
abbrev pub EndedApart : Type 0
EndedApart =
    (s : State) (u v : List Move) → Reaches s u (λ end _. IsEnded end) → IsSchedule s v
    → BeginsWith v u → v ≡ u

-- a component and a matrix have one report with these bounds
abbrev pub OneReport : Type 0
OneReport =
    (c : Component) (matrix : Matrix) (bound serial : ℕ) (r other : Report) →
    Settles c matrix → IsReport c matrix bound serial r → IsReport c matrix bound serial other
    → r ≡ other

-- a component and a matrix have one report against a set with this bound
abbrev pub OneReportAgainst : Type 0
OneReportAgainst =
    (c : Component) (matrix : Matrix) (members : List (List SerialOp)) (bound : ℕ)
    (r other : Report) →
    Settles c matrix → IsReportAgainst (IsMember members) c matrix bound r →
    IsReportAgainst (IsMember members) c matrix bound other → r ≡ other

-- a report that is no pass is confirmed
abbrev pub AllConfirmed : Type 0
AllConfirmed =
    (c : Component) (matrix : Matrix) (bound serial : ℕ) (r : Report) →
    IsReport c matrix bound serial r → (IsPass r.finding → ⊥) → IsConfirmed c matrix r

-- a report against a set that is no pass is confirmed against it
abbrev pub AllConfirmedAgainst : Type 0
AllConfirmedAgainst =
    (c : Component) (matrix : Matrix) (members : List (List SerialOp)) (bound : ℕ) (r : Report) →
    IsReportAgainst (IsMember members) c matrix bound r → (IsPass r.finding → ⊥)
    → IsConfirmedAgainst (IsMember members) c matrix r
