-- What `check` answers.
use Rattle.std.specs.Prelude.{◌≡◌, ◌≢◌, ◌⊎◌, ℕ, List, Result}
use Rattle.lu_text.specs.Words.{exactly_two, exactly_three}
use Rattle.lu_component.specs.Component.{Component}
use Rattle.lu_test.specs.Matrix.{Matrix}
use Rattle.lu_history.specs.declared.serial.SerialOp.{SerialOp}
use Rattle.lu_report.specs.Parts.{Report}
use Rattle.lu_witness.specs.Witnesses.{IsMember}
use Rattle.lu_replay.specs.Reports.{IsReport, IsReportAgainst}
use Rattle.lu_parallel.specs.Ranges.{Options}
use Rattle.lu_machine.specs.declared.test.Test.{Test}
use Rattle.lu_spec.specs.declared.given.Marks.{Marks}
use Rattle.lu_cli.specs.declared.refusal.Refusal.{Refusal}
use Rattle.lu_cli.specs.Refusals.{Answered}
use Rattle.lu_cli.specs.Shows.{reported}
use Rattle.lu_cli.specs.Outcomes.{Answer, no_worker}
use Rattle.lu_cli.specs.Reading.{ToParts, ToTexts, ToGiven}

-- the report, whatever the number of workers and the depth; or, with more than one worker, that a
-- thread could not start
abbrev pub IsChecked : Component → Matrix → Options → Answer → Type 0
IsChecked c matrix choice answer =
    ((r : Report) × IsReport c matrix choice.bound choice.serial r × (answer ≡ reported r))
    ⊎ ((choice.workers ≢ 1) × (answer ≡ no_worker))

abbrev pub Checks : Test → Options → Result Answer Refusal → Type 0
Checks test choice = Answered (IsChecked test.component.now test.matrix.now choice)

abbrev pub IsAnswerToCheck : Options → List (List ℕ) → Answer → Type 0
IsAnswerToCheck choice parts =
    ToParts (exactly_two parts) (λ p. ToTexts p.0 p.1 (λ c m. IsChecked c m choice))

-- ---- against a specification

-- the report against the set of these members, whatever the number of workers and the depth; or,
-- with more than one worker, that a thread could not start
abbrev pub IsCheckedAgainst : Component → Matrix → Options → List (List SerialOp) → Answer
    → Type 0
IsCheckedAgainst c matrix choice members answer =
    ((r : Report) × IsReportAgainst (IsMember members) c matrix choice.bound r
    × (answer ≡ reported r))
    ⊎ ((choice.workers ≢ 1) × (answer ≡ no_worker))

-- the specification is read, and then the matrix is checked against it
abbrev pub IsCheckedAgainstText : Component → Matrix → Options → Marks → List ℕ → Answer → Type 0
IsCheckedAgainstText c matrix choice marks spec =
    ToGiven marks matrix spec (IsCheckedAgainst c matrix choice)

abbrev pub ChecksAgainst : Test → Options → Marks → List ℕ → Result Answer Refusal → Type 0
ChecksAgainst test choice marks spec =
    Answered (IsCheckedAgainstText test.component.now test.matrix.now choice marks spec)

abbrev pub IsAnswerToCheckAgainst : Options → Marks → List (List ℕ) → Answer → Type 0
IsAnswerToCheckAgainst choice marks parts =
    ToParts (exactly_three parts)
    (λ p. ToTexts p.0 p.1 (λ c m. IsCheckedAgainstText c m choice marks p.2))
