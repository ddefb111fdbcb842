-- What lint and the readers say of one text.
use Rattle.std.specs.Prelude.{ℕ, List}
use Rattle.lu_component.specs.Component.{Component}
use Rattle.lu_text.specs.Faults.{meaning_of}
use Rattle.lu_lang.specs.Grammar.{component_grammar}
use Rattle.lu_test.specs.MatrixText.{matrix_grammar}
use Rattle.lu_test.specs.ScheduleText.{schedule_of}
use Rattle.lu_lint.specs.Schedule.{AgreeOn, schedule_faults}
use Rattle.lu_lint.specs.Lint.{AgreeOnText, faults_in}
use Rattle.lu_lint.specs.Component.{component_lint}
use Rattle.lu_lint.specs.Matrix.{lint_of}

-- a component's text has no fault exactly where the reader reads it; else the first is the reader's
abbrev pub ComponentAgrees : Type 0
ComponentAgrees =
    (text : List ℕ)
    → AgreeOnText (meaning_of component_grammar text) (faults_in component_lint text)

-- the same for a matrix of any component
abbrev pub MatrixAgrees : Type 0
MatrixAgrees = (c : Component) (text : List ℕ)
    → AgreeOnText (meaning_of (matrix_grammar c) text) (faults_in (lint_of c) text)

-- the same for a schedule
abbrev pub ScheduleAgrees : Type 0
ScheduleAgrees = (text : List ℕ) → AgreeOn (schedule_of text) (schedule_faults text)
