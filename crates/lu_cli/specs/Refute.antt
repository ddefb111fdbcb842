-- What `refute` answers.
use Rattle.std.specs.Prelude.{◌≡◌, ◌⊎◌, ℕ, List, Result, codes}
use Rattle.lu_text.specs.Words.{exactly_four}
use Rattle.lu_component.specs.Component.{Component}
use Rattle.lu_test.specs.declared.schedule.Move.{Move}
use Rattle.lu_test.specs.Matrix.{Matrix}
use Rattle.lu_machine.specs.declared.test.Test.{Test}
use Rattle.lu_history.specs.declared.serial.SerialOp.{SerialOp}
use Rattle.lu_report.specs.Parts.{Report}
use Rattle.lu_refute.specs.Answers.{IsAnswer as IsRefutation, IsConfirmedFailure}
use Rattle.lu_cli.specs.Shows.{with_schedule}
use Rattle.lu_cli.specs.Outcomes.{Answer, refused}
use Rattle.lu_cli.specs.Refusals.{Answered}
use Rattle.lu_cli.specs.declared.refusal.Refusal.{Refusal}
use Rattle.lu_cli.specs.Reading.{ToReport, ToSpec, ToParts, ToTexts}

-- a schedule that the specification does not explain; or F2, where no run confirms that the report
-- is a failure or nondeterministic
abbrev pub IsRefuted : Component → Matrix → Report → List (List SerialOp) → Answer → Type 0
IsRefuted c matrix r members answer =
    (IsConfirmedFailure c matrix r
    × ((example : Matrix × List Move) × IsRefutation c matrix r members example
    × (answer ≡ with_schedule c example)))
    ⊎ ((IsConfirmedFailure c matrix r → ⊥) × (answer ≡ refused (codes "F2")))

-- the report is read first, and then the specification
abbrev pub IsRefutedTexts : Component → Matrix → List ℕ → List ℕ → Answer → Type 0
IsRefutedTexts c matrix report spec =
    ToReport report (λ r. ToSpec matrix spec (IsRefuted c matrix r))

-- that is answered, or a refusal that is
abbrev pub RefutesSpec : Test → Report → List (List SerialOp) → Result Answer Refusal → Type 0
RefutesSpec test r members = Answered (IsRefuted test.component.now test.matrix.now r members)

abbrev pub RefutesTexts : Test → List ℕ → List ℕ → Result Answer Refusal → Type 0
RefutesTexts test report spec =
    Answered (IsRefutedTexts test.component.now test.matrix.now report spec)

abbrev pub IsAnswerToRefute : List (List ℕ) → Answer → Type 0
IsAnswerToRefute parts =
    ToParts (exactly_four parts) (λ p. ToTexts p.0 p.1 (λ c m. IsRefutedTexts c m p.2 p.3))
