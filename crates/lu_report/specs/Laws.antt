-- What is reported of a text, and what its reader says.
use Rattle.std.specs.Prelude.{◌≡◌, ℕ, List, [], ◌∷◌}
use Rattle.lu_text.specs.declared.fault.Fault.TheVariants.{At}
use Rattle.lu_text.specs.Lines.{kept_lines}
use Rattle.lu_report.specs.declared.fault.ReportFaultKind.TheVariants.{Form}
use Rattle.lu_report.specs.declared.faults.ReportLineFault.{ReportLineFault}
use Rattle.lu_report.specs.declared.report.Report.{Report}
use Rattle.lu_report.specs.Forms.{IsFault, Spells}
use Rattle.lu_report.specs.EveryLine.{AreReportFaults}

-- Where nothing is reported of a text it spells a report; else the first fault that is reported is
-- on the reader's line.
abbrev pub IsListedAsRead : List ℕ → List ReportLineFault → Type 0
IsListedAsRead text [] = (r : Report) × Spells text r
IsListedAsRead text (first ∷ others) = IsFault text (At Form first.line)

-- What is reported of a text agrees with its reader.
abbrev pub ListedAsRead : Type 0
ListedAsRead =
    (text : List ℕ) (faults : List ReportLineFault) →
    AreReportFaults (kept_lines text) faults → IsListedAsRead text faults

-- Nothing is reported of a text that is read.
abbrev pub NoneListed : Type 0
NoneListed =
    (text : List ℕ) (r : Report) (faults : List ReportLineFault) →
    Spells text r → AreReportFaults (kept_lines text) faults → faults ≡ []
