-- What `draw` shows of a schedule.
use Rattle.std.specs.Prelude.{◌≡◌, ◌⊎◌, ℕ, List, String, string_bytes, Result, IfOk}
use Rattle.lu_component.specs.Component.{Component}
use Rattle.lu_test.specs.declared.schedule.Move.{Move}
use Rattle.lu_test.specs.Matrix.{Matrix}
use Rattle.lu_machine.specs.declared.test.Test.{Test}
use Rattle.lu_replay.specs.Replays.{IsInfeasibleAt}
use Rattle.lu_trace.specs.declared.wording.Wording.{Wording}
use Rattle.lu_picture.specs.declared.diagnosis.Diagnosis.{Diagnosis}
use Rattle.lu_picture.specs.Pictures.{IsWordedPicture, Why, nothing_said}
use Rattle.lu_picture.specs.Written.{said_by}
use Rattle.lu_cli.specs.Outcomes.{Answer, infeasible}

-- the picture of the schedule in these words, with why it fails, or where it is infeasible
abbrev pub IsDrawnWhy : Wording → Why → Component → Matrix → List Move → Answer → Type 0
IsDrawnWhy how why c matrix u answer =
    ((text : List ℕ) × IsWordedPicture how c matrix u why text
    × (answer ≡ record { text = text; status = 0 }))
    ⊎ ((i : ℕ) × IsInfeasibleAt c matrix u i × (answer ≡ infeasible i))

-- the picture of the schedule, or where it is infeasible
abbrev pub IsDrawn : Wording → Component → Matrix → List Move → Answer → Type 0
IsDrawn how c matrix u answer = IsDrawnWhy how nothing_said c matrix u answer

-- the picture of the schedule, with why it fails
abbrev pub IsPictureOf : {Z : Type 0} → Wording → Diagnosis → Component → Matrix → List Move
    → String Z → Type 0
IsPictureOf how why c matrix u text =
    IsWordedPicture how c matrix u (said_by why) (string_bytes text)

-- so it is of the result, where there is one
abbrev pub Pictures : {Z E : Type 0} → Wording → Diagnosis → Test → List Move
    → Result (String Z) E → Type 0
Pictures how why test u result =
    IfOk result (IsPictureOf how why test.component.now test.matrix.now u)

-- the same, or where the schedule is infeasible
abbrev pub DrawsWhy : {E : Type 0} → Wording → Diagnosis → Test → List Move → Result Answer E
    → Type 0
DrawsWhy how why test u result =
    IfOk result (IsDrawnWhy how (said_by why) test.component.now test.matrix.now u)

-- the picture without why it fails
abbrev pub Draws : {E : Type 0} → Wording → Test → List Move → Result Answer E → Type 0
Draws how test u result = IfOk result (IsDrawn how test.component.now test.matrix.now u)
