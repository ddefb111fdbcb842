-- Every fault of a text that is to list histories with marks or without.
use Rattle.std.specs.Prelude.{◌≡◌, ℕ, ◌++◌, MatchBool, MatchOption, List, [], ◌∷◌, Option, Some, None}
use Rattle.std.specs.Option.{option_to_list}
use Rattle.lu_text.specs.declared.fault.Fault.TheVariants.{At}
use Rattle.lu_text.specs.Words.{Word}
use Rattle.lu_history.specs.declared.serial.SerialOp.{SerialOp}
use Rattle.lu_test.specs.Matrix.{Matrix}
use Rattle.lu_spec.specs.declared.given.Marks.{Marks}
use Rattle.lu_spec.specs.declared.fault.SpecLineFault.{SpecLineFault}
use Rattle.lu_spec.specs.declared.free.FreeDraft.{FreeDraft}
use Rattle.lu_spec.specs.declared.marked_line.MarkedOp.{MarkedOp}
use Rattle.lu_spec.specs.Collecting.{has_begun, listing_lines}
use Rattle.lu_spec.specs.EveryFault.{AreSpecFaults}
use Rattle.lu_spec.specs.FirmEnds.{CollectsFreely, ListsTheSame, RefusesFreely}
use Rattle.lu_spec.specs.FreeSpecs.{AreListedFreely, HasFirmConflictIn, IsFaultOfFree, IsGivenFault, is_marked}
use Rattle.lu_spec.specs.MarkedEntries.{SayMarked, erased}
use Rattle.lu_spec.specs.Specs.{FitsMatrix}
use Rattle.lu_spec.specs.SpecText.{AreListed, spec_text}

-- the words say q, which is of the matrix and conflicts firmly with none of these
pub record IsTakenFreely (matrix : Matrix) (gathered : List (List MarkedOp)) (words : List Word)
    (q : List MarkedOp) : Type 0 where
  pub said : SayMarked words q
  pub fits : FitsMatrix matrix (erased q)
  pub apart : HasFirmConflictIn gathered q → ⊥

-- After a line its history is gathered; a line that has a fault is left out.
abbrev pub IsFreelyJudged : Matrix → List (List MarkedOp) → ℕ × List Word → Option SpecLineFault
    → List (List MarkedOp) → Type 0
IsFreelyJudged matrix gathered line None after =
    (q : List MarkedOp) × IsTakenFreely matrix gathered line.1 q × (after ≡ gathered ++ q ∷ [])
IsFreelyJudged matrix gathered line (Some fault) after =
    (fault.line ≡ line.0)
    × IsFaultOfFree matrix (HasFirmConflictIn gathered) line.1 fault.kind
    × (after ≡ gathered)

-- these are the faults of lines that are to list histories, after these histories
abbrev pub AreFreeFaultsFrom : Matrix → List (List MarkedOp) → List (ℕ × List Word)
    → List SpecLineFault → Type 0
AreFreeFaultsFrom matrix gathered [] faults = faults ≡ []
AreFreeFaultsFrom matrix gathered (line ∷ lines) faults =
    (fault : Option SpecLineFault) × (after : List (List MarkedOp)) × (others : List SpecLineFault)
    × IsFreelyJudged matrix gathered line fault after
    × AreFreeFaultsFrom matrix after lines others
    × (faults ≡ option_to_list fault ++ others)

-- these are the faults of a text
abbrev pub AreFreeFaults : Matrix → List ℕ → List SpecLineFault → Type 0
AreFreeFaults matrix text faults = AreFreeFaultsFrom matrix [] (listing_lines text) faults

-- ---- texts with marks and without

-- the faults of a text in which marks are allowed or refused
abbrev pub AreGivenFaults : Marks → Matrix → List ℕ → List SpecLineFault → Type 0
AreGivenFaults marks matrix text faults =
    MatchBool (is_marked marks text) (AreFreeFaults matrix text faults)
    (AreSpecFaults matrix text faults)

abbrev pub ListsFreely : Matrix → List ℕ → Type 0
ListsFreely matrix text =
    (listed : List (List MarkedOp)) × AreListedFreely matrix (listing_lines text) listed

abbrev pub ListsInOrder : Matrix → List ℕ → Type 0
ListsInOrder matrix text =
    (listed : List (List SerialOp)) × AreListed matrix listed × (text ≡ spec_text listed)

-- the text lists histories of the matrix, as such a text does
abbrev pub ListsGiven : Marks → Matrix → List ℕ → Type 0
ListsGiven marks matrix text =
    MatchBool (is_marked marks text) (ListsFreely matrix text) (ListsInOrder matrix text)

-- Where nothing is reported of a text it lists histories of the matrix; else the first fault that
-- is reported is the reader's.
abbrev pub IsGivenListedAsRead : Marks → Matrix → List ℕ → List SpecLineFault → Type 0
IsGivenListedAsRead marks matrix text [] = ListsGiven marks matrix text
IsGivenListedAsRead marks matrix text (first ∷ others) =
    IsGivenFault marks matrix text (At first.kind first.line)

abbrev pub GivenListedAsRead : Type 0
GivenListedAsRead =
    (marks : Marks) (matrix : Matrix) (text : List ℕ) (faults : List SpecLineFault) →
    AreGivenFaults marks matrix text faults → IsGivenListedAsRead marks matrix text faults

-- ---- one line after those of a draft

-- the next draft has the history that the line lists, where it lists one; or it has the same
-- histories, and the fault is the line's, which is line n
abbrev pub JudgesFreely : Matrix → FreeDraft → List Word → ℕ → FreeDraft × Option SpecLineFault
    → Type 0
JudgesFreely matrix draft words n returned =
    (returned.0.begun ≡ has_begun draft.begun words)
    × MatchOption returned.1 (CollectsFreely matrix draft words returned.0)
    (λ fault. ListsTheSame draft returned.0
    × RefusesFreely matrix draft words n (At fault.kind fault.line))
