-- Every fault of a text that is to be a specification of a matrix.
use Rattle.std.specs.Prelude.{◌≡◌, ◌≢◌, ℕ, ◌+◌, ◌⊎◌, List, [], ◌∷◌, ◌++◌, Option, Some, None}
use Rattle.std.specs.Option.{option_to_list}
use Rattle.lu_text.specs.Lines.{kept_lines}
use Rattle.lu_history.specs.declared.serial.SerialOp.{SerialOp}
use Rattle.lu_test.specs.Matrix.{Matrix}
use Rattle.lu_spec.specs.declared.fault.SpecFaultKind.TheVariants.{Form}
use Rattle.lu_spec.specs.declared.fault.SpecLineFault.{SpecLineFault}
use Rattle.lu_spec.specs.declared.reader.ListedDraft.{ListedDraft}
use Rattle.lu_spec.specs.Specs.{FitsMatrix}
use Rattle.lu_spec.specs.SpecText.{HasConflictIn, IsFaultOfLine, SaysHistory, first_line}
use Rattle.lu_spec.specs.Reading.{IsGatheredDraft, IsNextOf}

-- the line says a history of the matrix which conflicts with none of these
pub record IsTaken (matrix : Matrix) (gathered : List (List SerialOp)) (line : List ℕ)
    (q : List SerialOp) : Type 0 where
  pub says : SaysHistory line q
  pub fits : FitsMatrix matrix q
  pub apart : HasConflictIn gathered q → ⊥

abbrev pub TakesNone : Matrix → List (List SerialOp) → List ℕ → Type 0
TakesNone matrix gathered line = (q : List SerialOp) → IsTaken matrix gathered line q → ⊥

-- After a line its history is gathered, where it says such a one, in order or not. A line that
-- says none is left out.
abbrev pub Leaves : Matrix → List (List SerialOp) → List ℕ → List (List SerialOp) → Type 0
Leaves matrix gathered line after =
    ((q : List SerialOp) × IsTaken matrix gathered line q × (after ≡ gathered ++ q ∷ []))
    ⊎ TakesNone matrix gathered line × (after ≡ gathered)

-- line n has no fault where it is that of a history that may stand there; else it has its fault
abbrev pub IsJudgedAs : Matrix → List (List SerialOp) → ℕ → List ℕ → Option SpecLineFault → Type 0
IsJudgedAs matrix gathered n line None = (q : List SerialOp) × IsNextOf matrix gathered line q
IsJudgedAs matrix gathered n line (Some fault) =
    (fault.line ≡ n) × IsFaultOfLine matrix gathered line fault.kind

-- these are the faults of the lines, of which the first is line n, after these histories
abbrev pub AreFaultsFrom : Matrix → ℕ → List (List SerialOp) → List (List ℕ) → List SpecLineFault
    → Type 0
AreFaultsFrom matrix n gathered [] faults = faults ≡ []
AreFaultsFrom matrix n gathered (line ∷ lines) faults =
    (fault : Option SpecLineFault) × (after : List (List SerialOp)) × (others : List SpecLineFault)
    × IsJudgedAs matrix gathered n line fault × Leaves matrix gathered line after
    × AreFaultsFrom matrix (n + 1) after lines others
    × (faults ≡ option_to_list fault ++ others)

-- the fault of the first line, where that is another than it is to be
abbrev pub first_line_fault : SpecLineFault
first_line_fault = record { kind = Form; line = 1 }

abbrev pub IsFirstLineFault : List ℕ → Option SpecLineFault → Type 0
IsFirstLineFault line None = line ≡ first_line
IsFirstLineFault line (Some fault) = (line ≢ first_line) × (fault ≡ first_line_fault)

-- these are the faults of the lines of a text; those after the first are read as if it were right
abbrev pub AreFaultsOfLines : Matrix → List (List ℕ) → List SpecLineFault → Type 0
AreFaultsOfLines matrix [] faults = faults ≡ first_line_fault ∷ []
AreFaultsOfLines matrix (first ∷ lines) faults =
    (fault : Option SpecLineFault) × (others : List SpecLineFault) × IsFirstLineFault first fault
    × AreFaultsFrom matrix 2 [] lines others
    × (faults ≡ option_to_list fault ++ others)

-- these are the faults of a text
abbrev pub AreSpecFaults : Matrix → List ℕ → List SpecLineFault → Type 0
AreSpecFaults matrix text faults = AreFaultsOfLines matrix (kept_lines text) faults

-- ---- what is returned of a line, after the histories of a draft

-- a draft of the histories that are gathered after the line
abbrev pub LeavesDraft : Matrix → List (List SerialOp) → List ℕ → ListedDraft → Type 0
LeavesDraft matrix gathered line next =
    (after : List (List SerialOp)) × Leaves matrix gathered line after
    × IsGatheredDraft matrix after next.set next.last.items

abbrev pub LeftBy : Matrix → ListedDraft → List ℕ → ListedDraft → Type 0
LeftBy matrix draft line next =
    (gathered : List (List SerialOp))
    → IsGatheredDraft matrix gathered draft.set draft.last.items
    → LeavesDraft matrix gathered line next

-- such a draft, and the fault of the line, which is line n
abbrev pub Judges : Matrix → ListedDraft → ℕ → List ℕ → ListedDraft × Option SpecLineFault → Type 0
Judges matrix draft n line returned =
    (gathered : List (List SerialOp))
    → IsGatheredDraft matrix gathered draft.set draft.last.items
    → IsJudgedAs matrix gathered n line returned.1 × LeavesDraft matrix gathered line returned.0

-- the faults after these are those of the lines, of which the first is line 2
abbrev pub AddsFaults : Matrix → List (List ℕ) → List SpecLineFault → List SpecLineFault → Type 0
AddsFaults matrix lines before after =
    (faults : List SpecLineFault) × AreFaultsFrom matrix 2 [] lines faults
    × (after ≡ before ++ faults)
