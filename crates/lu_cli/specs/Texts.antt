-- Checks of the texts of a component and a matrix.
use Rattle.std.specs.Prelude.{◌≡◌, ℕ, List, Ok, String, string_bytes}
use Rattle.lu_text.specs.Faults.{meaning_of, IsUnlessMemory}
use Rattle.lu_component.specs.Component.{Component as AComponent}
use Rattle.lu_lang.specs.Grammar.{component_grammar}
use Rattle.lu_test.specs.MatrixText.{matrix_grammar}
use Rattle.lu_test.specs.Matrix.{Matrix as AMatrix}
use Rattle.lu_machine.specs.Starts.{IsUnsettledAt, Settles}
use Rattle.lu_report.specs.Parts.{Report}
use Rattle.lu_history.specs.declared.serial.SerialOp.{SerialOp}
use Rattle.lu_witness.specs.Witnesses.{IsMember}
use Rattle.lu_replay.specs.Reports.{IsReport, IsReportAgainst}
use Rattle.lu_report.specs.Text.{report_text}
use Rattle.lu_parallel.specs.Ranges.{Options}
use Rattle.lu_parallel.specs.declared.fault.CheckFault.TheVariants.{Memory}
use Rattle.lu_spec.specs.declared.given.Marks.{Marks}
use Rattle.lu_spec.specs.declared.given.Marks.TheVariants.{Refused}
use Rattle.lu_spec.specs.FreeSpecs.{IsGivenAs, IsGivenFault}
use Rattle.lu_cli.specs.declared.texts.Fault.{Fault as TextsFault}
use Rattle.lu_cli.specs.declared.texts.Fault.TheVariants.{Component, Matrix, Setup, Spec, Check}

-- the texts are those of the component c and the matrix m
abbrev pub AreTexts : List ℕ → List ℕ → AComponent → AMatrix → Type 0
AreTexts component matrix c m =
    (meaning_of component_grammar component ≡ Ok c) × (meaning_of (matrix_grammar c) matrix ≡ Ok m)

-- they are, and the setup settles
abbrev pub AreSettled : List ℕ → List ℕ → AComponent → AMatrix → Type 0
AreSettled component matrix c m = AreTexts component matrix c m × Settles c m

-- the text is that of the matrix m, and the setup settles
abbrev pub IsSettledMatrix : AComponent → List ℕ → AMatrix → Type 0
IsSettledMatrix c text m = (meaning_of (matrix_grammar c) text ≡ Ok m) × Settles c m

-- the fault of the matrix's text; or the number of the first call of the setup that does not end
abbrev pub IsFaultOfMatrix : AComponent → List ℕ → TextsFault → Type 0
IsFaultOfMatrix c text (Component fault) = ⊥
IsFaultOfMatrix c text (Matrix fault) = IsUnlessMemory fault (meaning_of (matrix_grammar c) text)
IsFaultOfMatrix c text (Setup k) =
    (m : AMatrix) × (meaning_of (matrix_grammar c) text ≡ Ok m) × IsUnsettledAt c m k
IsFaultOfMatrix c text (Spec fault) = ⊥
IsFaultOfMatrix c text (Check fault) = ⊥

-- the one report of the component and the matrix of these texts
abbrev pub IsReportOfTexts : List ℕ → List ℕ → Options → Report → Type 0
IsReportOfTexts component matrix choice r =
    (c : AComponent) × (m : AMatrix) × AreSettled component matrix c m
    × IsReport c m choice.bound choice.serial r

-- its text
abbrev pub IsReportText : {Z : Type 0} → List ℕ → List ℕ → Options → String Z → Type 0
IsReportText component matrix choice text =
    (r : Report) × IsReportOfTexts component matrix choice r × (string_bytes text ≡ report_text r)

-- the fault of the first text that has one; or the number of the first call of the setup that does
-- not end
abbrev pub IsFaultOfTexts : List ℕ → List ℕ → TextsFault → Type 0
IsFaultOfTexts component matrix (Component fault) =
    IsUnlessMemory fault (meaning_of component_grammar component)
IsFaultOfTexts component matrix (Matrix fault) =
    (c : AComponent) × (meaning_of component_grammar component ≡ Ok c)
    × IsUnlessMemory fault (meaning_of (matrix_grammar c) matrix)
IsFaultOfTexts component matrix (Setup k) =
    (c : AComponent) × (m : AMatrix) × AreTexts component matrix c m × IsUnsettledAt c m k
IsFaultOfTexts component matrix (Spec fault) = ⊥
IsFaultOfTexts component matrix (Check fault) = ⊥

-- the fault of the texts or of the setup; of the check, refused memory, or a thread that could not
-- start
abbrev pub IsCheckFault : List ℕ → List ℕ → Options → TextsFault → Type 0
IsCheckFault component matrix choice (Component fault) =
    IsFaultOfTexts component matrix (Component fault)
IsCheckFault component matrix choice (Matrix fault) = IsFaultOfTexts component matrix (Matrix fault)
IsCheckFault component matrix choice (Setup k) = IsFaultOfTexts component matrix (Setup k)
IsCheckFault component matrix choice (Spec fault) = ⊥
IsCheckFault component matrix choice (Check fault) =
    (c : AComponent) × (m : AMatrix) × AreSettled component matrix c m
    × (choice.workers ≡ 1 → fault ≡ Memory)

-- ---- against a specification

-- the text lists histories of the matrix, and r is the one report against their set
abbrev pub IsReportAgainstText : AComponent → AMatrix → Marks → List ℕ → Options → Report → Type 0
IsReportAgainstText c m marks spec choice r =
    (members : List (List SerialOp)) × IsGivenAs marks m spec members
    × IsReportAgainst (IsMember members) c m choice.bound r

-- the fault of the specification's text; of the check, refused memory, or a thread that could not
-- start
abbrev pub IsFaultOfSpec : AComponent → AMatrix → Marks → List ℕ → Options → TextsFault → Type 0
IsFaultOfSpec c m marks spec choice (Component fault) = ⊥
IsFaultOfSpec c m marks spec choice (Matrix fault) = ⊥
IsFaultOfSpec c m marks spec choice (Setup k) = ⊥
IsFaultOfSpec c m marks spec choice (Spec fault) = IsGivenFault marks m spec fault
IsFaultOfSpec c m marks spec choice (Check fault) =
    (members : List (List SerialOp)) × IsGivenAs marks m spec members
    × (choice.workers ≡ 1 → fault ≡ Memory)

-- the text of the one report of the component and the matrix of two texts against the specification
-- of a third
abbrev pub IsReportTextAgainst : {Z : Type 0} → List ℕ → List ℕ → List ℕ → Options → String Z
    → Type 0
IsReportTextAgainst component matrix spec choice text =
    (c : AComponent) × (m : AMatrix) × AreSettled component matrix c m
    × ((r : Report) × IsReportAgainstText c m Refused spec choice r
    × (string_bytes text ≡ report_text r))

-- where the first two texts are those of a component and a matrix whose setup settles, this is the
-- fault
abbrev pub IsFaultOnceSettled : List ℕ → List ℕ → List ℕ → Options → TextsFault → Type 0
IsFaultOnceSettled component matrix spec choice fault =
    (c : AComponent) × (m : AMatrix) × AreSettled component matrix c m
    × IsFaultOfSpec c m Refused spec choice fault

-- the fault of the first text that has one, or of the setup; or that of the check
abbrev pub IsCheckAgainstFault : List ℕ → List ℕ → List ℕ → Options → TextsFault → Type 0
IsCheckAgainstFault component matrix spec choice (Component fault) =
    IsFaultOfTexts component matrix (Component fault)
IsCheckAgainstFault component matrix spec choice (Matrix fault) =
    IsFaultOfTexts component matrix (Matrix fault)
IsCheckAgainstFault component matrix spec choice (Setup k) =
    IsFaultOfTexts component matrix (Setup k)
IsCheckAgainstFault component matrix spec choice (Spec fault) =
    IsFaultOnceSettled component matrix spec choice (Spec fault)
IsCheckAgainstFault component matrix spec choice (Check fault) =
    IsFaultOnceSettled component matrix spec choice (Check fault)
