-- What a search of all schedules finds.
use Rattle.std.specs.Prelude.{ℕ, List, Option, Some, None, Result, IfOk, IfSome}
use Rattle.lu_component.specs.Component.{Component}
use Rattle.lu_test.specs.Matrix.{Matrix}
use Rattle.lu_history.specs.declared.serial.SerialOp.{SerialOp}
use Rattle.lu_witness.specs.Witnesses.{IsMember}
use Rattle.lu_report.specs.declared.report.Report.{Report}
use Rattle.lu_machine.specs.Tests.{FromEachStartOf}
use Rattle.lu_replay.specs.Reports.{IsFinding, IsFindingAgainst, IsReportAgainst}
use Rattle.lu_report.specs.declared.report.Finding.{Finding}
use Rattle.lu_report.specs.declared.report.Finding.TheVariants.{Pass, Fail}
use Rattle.lu_parallel.specs.Ranges.{Options}
use Rattle.lu_tree.specs.declared.found.Found.{Found}
use Rattle.lu_tree.specs.declared.found.Found.TheVariants.{Clean, Bad, Abandoned}
use Rattle.lu_tree.specs.declared.space.SearchSpace.{SearchSpace}

-- the finding of a check in which no serial run offends or none is made; none of a search that was
-- abandoned
abbrev pub finding_of : Found → Option Finding
finding_of (Clean counts) = Some (Pass counts)
finding_of (Bad schedule why) = Some (Fail schedule why)
finding_of Abandoned = None

-- ---- what is answered

-- what is found in the space with this bound of serial runs, from each start
abbrev pub FindsFromStarts : {E : Type 0} → SearchSpace → ℕ → Result Finding E → Type 0
FindsFromStarts space serial result =
    FromEachStartOf space.test
    (λ s. IfOk result (IsFinding s space.bound serial))

-- what is found in the space against the set with these members
abbrev pub FindsAgainst : {E : Type 0} → SearchSpace → List (List SerialOp) → Result Finding E
    → Type 0
FindsAgainst space members result =
    FromEachStartOf space.test
    (λ s. IfOk result (IsFindingAgainst (IsMember members) s space.bound))

-- the same, where the search came to its end
abbrev pub MayFindAgainst : {E : Type 0} → SearchSpace → List (List SerialOp)
    → Result (Option Finding) E → Type 0
MayFindAgainst space members result =
    FromEachStartOf space.test
    (λ s. IfOk result (λ found. IfSome found (IsFindingAgainst (IsMember members) s space.bound)))

-- the report against the set with these members
abbrev pub ReportsAgainst : {E : Type 0} → Component → Matrix → List (List SerialOp) → ℕ
    → Result Report E → Type 0
ReportsAgainst c matrix members bound result =
    IfOk result (IsReportAgainst (IsMember members) c matrix bound)

-- the same, within the bound that is asked for
abbrev pub ReportsAsAsked : {E : Type 0} → Component → Matrix → List (List SerialOp) → Options
    → Result Report E → Type 0
ReportsAsAsked c matrix members asked result = ReportsAgainst c matrix members asked.bound result
