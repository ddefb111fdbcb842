-- The text of a report.
use Rattle.std.specs.Prelude.{ℕ, zero, suc, List, [], ◌∷◌, ◌++◌, Option, Some, None, codes}
use Rattle.std.specs.Fmt.{decimal}
use Rattle.std.specs.List.{concat}
use Rattle.lu_test.specs.ScheduleText.{schedule_text}
use Rattle.lu_history.specs.declared.serial.SerialOutcome.{SerialOutcome}
use Rattle.lu_history.specs.declared.serial.SerialOutcome.TheVariants as serial
use Rattle.lu_witness.specs.declared.judgement.Why.{Why}
use Rattle.lu_witness.specs.declared.judgement.Why.TheVariants.{Complete, Stuck}
use Rattle.lu_report.specs.declared.report.Finding.{Finding}
use Rattle.lu_report.specs.declared.report.Finding.TheVariants.{SerialCut, Nondeterministic, Fail, Pass}
use Rattle.lu_report.specs.declared.report.Report.{Report}
use Rattle.lu_report.specs.declared.version.Version.{Version}
use Rattle.lu_report.specs.declared.version.Version.TheVariants.{One, Two, Three}

-- a number after these bytes
abbrev pub number_line : List ℕ → ℕ → List ℕ
number_line front n = front ++ decimal n ++ codes "\n"

abbrev pub earlier_line : SerialOutcome → List ℕ
earlier_line (serial.Ret n) = number_line (codes "earlier ret ") n
earlier_line serial.Trap = codes "earlier trap\n"
earlier_line serial.Stuck = codes "earlier stuck\n"

abbrev pub fail_line : Why → List ℕ
fail_line Complete = codes "fail complete\n"
fail_line (Stuck t) = number_line (codes "fail stuck ") t

-- the lines of what is found, each with its LF
abbrev pub finding_lines : Finding → List (List ℕ)
finding_lines (SerialCut u) = codes "serial-cut\n" ∷ schedule_text u ∷ []
finding_lines (Nondeterministic u before earlier) =
    codes "nondeterministic\n" ∷ schedule_text u ∷ number_line (codes "before ") before ∷
    earlier_line earlier ∷ []
finding_lines (Fail u why) = fail_line why ∷ schedule_text u ∷ []
finding_lines (Pass counts) =
    codes "pass\n" ∷ number_line (codes "complete ") counts.complete ∷ number_line (codes "stuck ")
    counts.stuck ∷ number_line (codes "cut ") counts.cut ∷ []

-- of a check against the serial runs version 1, where no local instruction runs with a move, else
-- version 2; of a check against a specification version 3
abbrev pub version_of : Option ℕ → ℕ → Version
version_of (Some serial) zero = One
version_of (Some serial) (suc n) = Two
version_of None local = Three

-- the first line
abbrev pub version_line : Version → List ℕ
version_line One = codes "lineup report 1\n"
version_line Two = codes "lineup report 2\n"
version_line Three = codes "lineup report 3\n"

-- the bound of serial runs, where there is one
abbrev pub serial_lines : Option ℕ → List (List ℕ)
serial_lines (Some n) = number_line (codes "serial ") n ∷ []
serial_lines None = []

-- in versions 2 and 3, how many local instructions run with one move at most
abbrev pub local_lines : Version → ℕ → List (List ℕ)
local_lines One local = []
local_lines Two local = number_line (codes "local ") local ∷ []
local_lines Three local = number_line (codes "local ") local ∷ []

-- the lines of a report, each with its LF
abbrev pub report_lines : Report → List (List ℕ)
report_lines r =
    version_line (version_of r.serial r.local)
    ∷ number_line (codes "bound ") r.bound
    ∷ serial_lines r.serial
    ++ (local_lines (version_of r.serial r.local) r.local
    ++ finding_lines r.finding)

abbrev pub report_text : Report → List ℕ
report_text r = concat (report_lines r)
