-- What works over the pieces of a cover come to.
use Rattle.std.specs.Prelude.{ℕ, List, length, Some, IsSomeAnd, All}
use Rattle.atomic_table.specs.Seated.{TableId}
use Rattle.lu_component.specs.Component.{Component}
use Rattle.lu_test.specs.declared.schedule.Move.{Move}
use Rattle.lu_test.specs.Matrix.{Matrix}
use Rattle.lu_machine.specs.States.{State}
use Rattle.lu_machine.specs.Starts.{IsStart}
use Rattle.lu_machine.specs.Schedules.{IsCover}
use Rattle.lu_history.specs.declared.serial.SerialOp.{SerialOp}
use Rattle.lu_serial.specs.Offences.{IsSetOf}
use Rattle.lu_witness.specs.Goodness.{Any}
use Rattle.lu_witness.specs.Witnesses.{IsMember}
use Rattle.lu_tree.specs.declared.found.Found.{Found}
use Rattle.lu_tree.specs.Trees.{IsFound}
use Rattle.lu_board.specs.Close.{SharesOut}
use Rattle.lu_replay.specs.Reports.{IsFinding, IsFindingAgainst}
use Rattle.lu_parallel.specs.declared.works.Work.{Work}
use Rattle.lu_parallel.specs.Findings.{finding_of}
use Rattle.lu_parallel.specs.Works.{IsWork}
use Rattle.lu_parallel.specs.Conclusions.{IsConclusion, SkipsAbove, seats_of}

-- The works of all seats of a board, over the pieces of a cover from the start s.
pub record AreWorksOver (members : List (List SerialOp)) (s : State) (bound : ℕ)
    (works : List Work) : Type 0 where
  pub component : Component
  pub matrix : Matrix
  pub start : IsStart component matrix s
  pub pieces : List (List Move)
  pub cover : IsCover s bound pieces
  pub board : TableId
  pub each : All (IsWork component matrix members bound pieces board) works
  pub shares : SharesOut (length pieces) (seats_of works)
  pub skips : SkipsAbove works

-- What the works over a cover conclude is what a search of all schedules finds.
abbrev pub Concludes : Type 0
Concludes =
    (members : List (List SerialOp)) (s : State) (bound : ℕ) (works : List Work) (found : Found) →
    AreWorksOver members s bound works → IsConclusion works (Some found)
    → IsFound (IsMember members) s bound Any found

-- What is found over a set is the finding of the report against it.
abbrev pub IsReportedAgainst : Type 0
IsReportedAgainst =
    (s : State) (bound : ℕ) (members : List (List SerialOp)) (found : Found) →
    IsFound (IsMember members) s bound Any found
    → IsSomeAnd (finding_of found) (IsFindingAgainst (IsMember members) s bound)

-- What is found over the set of all serial histories is the finding of the report.
abbrev pub IsReported : Type 0
IsReported =
    (s : State) (bound serial : ℕ) (members : List (List SerialOp)) (found : Found) →
    IsSetOf s serial members → IsFound (IsMember members) s bound Any found
    → IsSomeAnd (finding_of found) (IsFinding s bound serial)
