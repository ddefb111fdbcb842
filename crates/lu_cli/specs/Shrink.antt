-- What `shrink` answers.
use Rattle.std.specs.Prelude.{◌≡◌, ◌⊎◌, ℕ, List, Result, IfOk}
use Rattle.lu_text.specs.Words.{exactly_two}
use Rattle.lu_component.specs.Component.{Component}
use Rattle.lu_test.specs.Matrix.{Matrix}
use Rattle.lu_machine.specs.declared.test.Test.{Test}
use Rattle.lu_report.specs.Parts.{Report}
use Rattle.lu_replay.specs.Reports.{IsReport}
use Rattle.lu_report.specs.Parts.{IsFailure}
use Rattle.lu_refine.specs.Removals.{IsShrunk}
use Rattle.lu_report.specs.Limits.{Bounds}
use Rattle.lu_cli.specs.Shows.{reported, with_matrix}
use Rattle.lu_cli.specs.Outcomes.{Answer}
use Rattle.lu_cli.specs.Reading.{ToParts, ToTexts}

-- the last matrix of the chain of removals, with its report; or the report of a matrix that does
-- not fail
abbrev pub ShowsShrunk : Component → Matrix → Bounds → Answer → Type 0
ShowsShrunk c matrix limits answer =
    ((smaller : Matrix) × (r : Report) × IsShrunk c matrix limits.bound limits.serial (smaller, r)
    × (answer ≡ with_matrix c smaller r))
    ⊎ ((r : Report) × IsReport c matrix limits.bound limits.serial r × (IsFailure r.finding → ⊥)
    × (answer ≡ reported r))

-- so it is of the result, where there is one
abbrev pub Shrinks : {E : Type 0} → Test → Bounds → Result Answer E → Type 0
Shrinks test limits result =
    IfOk result (ShowsShrunk test.component.now test.matrix.now limits)

abbrev pub IsAnswerToShrink : Bounds → List (List ℕ) → Answer → Type 0
IsAnswerToShrink limits parts =
    ToParts (exactly_two parts) (λ p. ToTexts p.0 p.1 (λ c m. ShowsShrunk c m limits))
