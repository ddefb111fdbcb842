-- What reports, matrices, schedules, specifications and certificates are shown as.
use Rattle.std.specs.Prelude.{ℕ, List, ◌≡◌, ◌++◌, codes}
use Rattle.lu_component.specs.Component.{Component}
use Rattle.lu_test.specs.declared.schedule.Move.{Move}
use Rattle.lu_test.specs.MatrixText.{matrix_text}
use Rattle.lu_test.specs.ScheduleText.{schedule_text}
use Rattle.lu_test.specs.Matrix.{Matrix}
use Rattle.lu_history.specs.declared.serial.SerialOp.{SerialOp}
use Rattle.lu_report.specs.declared.report.Finding.{Finding}
use Rattle.lu_report.specs.Parts.{Report}
use Rattle.lu_spec.specs.Listed.{IsListing}
use Rattle.lu_spec.specs.SpecText.{spec_text}
use Rattle.lu_certify.specs.declared.certificate.Certificate.{Certificate}
use Rattle.lu_report.specs.declared.report.Finding.TheVariants.{SerialCut, Nondeterministic, Fail, Pass}
use Rattle.lu_report.specs.Text.{report_text}
use Rattle.lu_certify.specs.declared.certificate.Certificate.TheVariants.{Linearizable, NotLinearizable, Livelock, Undecided}
use Rattle.lu_cli.specs.Outcomes.{Answer}

-- ---- reports

abbrev pub status_of : Finding → ℕ
status_of (Pass counts) = 0
status_of (Fail u why) = 1
status_of (Nondeterministic u before earlier) = 1
status_of (SerialCut u) = 3

abbrev pub reported : Report → Answer
reported r = record { text = report_text r; status = status_of r.finding }

-- ---- specifications

-- a specification that lists these histories
abbrev pub listed_as : List (List SerialOp) → Answer
listed_as listed = record { text = spec_text listed; status = 0 }

-- the text of the specification with these members, by those that begin no other
abbrev pub IsListed : List (List SerialOp) → Answer → Type 0
IsListed members answer =
    (listed : List (List SerialOp)) × IsListing members listed × (answer ≡ listed_as listed)

-- ---- a matrix, with its report or a schedule

abbrev pub two_texts : Component → Matrix → Report → List ℕ
two_texts c matrix r = matrix_text c matrix ++ codes "---\n" ++ report_text r

-- both, and the report's status
abbrev pub with_matrix : Component → Matrix → Report → Answer
with_matrix c matrix r = record { text = two_texts c matrix r; status = status_of r.finding }

-- a matrix, and a schedule of it
abbrev pub with_schedule : Component → Matrix × List Move → Answer
with_schedule c example = record {
  text = matrix_text c example.0 ++ codes "---\n" ++ schedule_text example.1;
  status = 1;
}

-- ---- certificates

-- a verdict in words, with what shows it
abbrev pub verdict : List ℕ → List ℕ → ℕ → Answer
verdict words text status = record { text = words ++ codes "\n---\n" ++ text; status = status }

-- what a certificate is shown as: its set as a specification; or the cut, and its report
abbrev pub ShowsCertificate : Component → Certificate → Answer → Type 0
ShowsCertificate c (Linearizable members) answer =
    (listed : List (List SerialOp)) × IsListing members listed
    × (answer ≡ verdict (codes "linearizable") (spec_text listed) 0)
ShowsCertificate c (NotLinearizable smaller r) answer =
    answer ≡ verdict (codes "not linearizable") (two_texts c smaller r) 1
ShowsCertificate c (Livelock smaller u) answer =
    answer ≡ verdict (codes "livelock") (with_schedule c (smaller, u)).text 1
ShowsCertificate c (Undecided smaller r) answer =
    answer ≡ verdict (codes "undecided") (two_texts c smaller r) 3
