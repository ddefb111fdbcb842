-- What is known of the lines of a specification that are read.
use Rattle.std.specs.Prelude.{◌≡◌, ℕ, ◌⊎◌, List, [], ◌∷◌, ◌++◌, map, Vec, Result, IfOk, IfErr}
use Rattle.lu_text.specs.declared.fault.Fault.{Fault}
use Rattle.lu_text.specs.declared.fault.Fault.TheVariants.{At, Memory}
use Rattle.lu_history.specs.declared.serial.SerialOp.{SerialOp}
use Rattle.lu_test.specs.Matrix.{Matrix}
use Rattle.lu_trie.specs.Conflicts.{IsDeterministic}
use Rattle.lu_spec.specs.declared.fault.SpecFaultKind.{SpecFaultKind}
use Rattle.lu_spec.specs.declared.reader.ListedDraft.{ListedDraft}
use Rattle.lu_spec.specs.Beginnings.{Has, IsClosureOf}
use Rattle.lu_spec.specs.Specs.{FitsMatrix}
use Rattle.lu_spec.specs.SpecText.{AreListed, HasConflictIn, IsFaultAmong, IsFaultOfLine, IsHistoryLine, IsListable, history_line}

-- the last of the listed histories; the empty one where none is listed
abbrev pub IsLastListed : List (List SerialOp) → List SerialOp → Type 0
IsLastListed listed last =
    ((listed ≡ []) × (last ≡ []))
    ⊎ ((before : List (List SerialOp)) × (listed ≡ before ++ last ∷ []))

-- histories that may be listed, of the matrix and without conflict, in any order
pub record AreGathered (matrix : Matrix) (gathered : List (List SerialOp)) : Type 0 where
  pub each : (q : List SerialOp) → Has gathered q → IsListable q × FitsMatrix matrix q
  pub deterministic : IsDeterministic gathered

-- such histories, with their closure and the last of them
pub record IsGatheredDraft (matrix : Matrix) (gathered set : List (List SerialOp))
    (last : List SerialOp) : Type 0 where
  pub are : AreGathered matrix gathered
  pub closure : IsClosureOf gathered set
  pub ends : IsLastListed gathered last

-- the listed histories, with their closure and the last of them
pub record IsListedDraft (matrix : Matrix) (listed set : List (List SerialOp))
    (last : List SerialOp) : Type 0 where
  pub are : AreListed matrix listed
  pub closure : IsClosureOf listed set
  pub ends : IsLastListed listed last

-- nothing is listed, whatever the matrix
abbrev pub ListsNothing : ListedDraft → Type 0
ListsNothing draft = (matrix : Matrix) → IsListedDraft matrix [] draft.set draft.last.items

-- there are such histories
abbrev pub IsSomeDraft : Matrix → List (List SerialOp) → List SerialOp → Type 0
IsSomeDraft matrix set last = (listed : List (List SerialOp)) × IsListedDraft matrix listed set last

abbrev pub IsSomeGathering : Matrix → List (List SerialOp) → List SerialOp → Type 0
IsSomeGathering matrix set last =
    (gathered : List (List SerialOp)) × IsGatheredDraft matrix gathered set last

-- these lines are theirs
abbrev pub IsDraftOf : Matrix → List (List ℕ) → ListedDraft → Type 0
IsDraftOf matrix lines draft =
    (listed : List (List SerialOp)) × IsListedDraft matrix listed draft.set draft.last.items
    × (lines ≡ map history_line listed)

-- the line is that of one more history, which may stand there
pub record IsNextOf (matrix : Matrix) (listed : List (List SerialOp)) (line : List ℕ)
    (q : List SerialOp) : Type 0 where
  pub is : IsHistoryLine listed line q
  pub fits : FitsMatrix matrix q
  pub apart : HasConflictIn listed q → ⊥

-- with the history of one more line
abbrev pub IsNextDraft : Matrix → List (List SerialOp) → List ℕ → List (List SerialOp)
    → List SerialOp → Type 0
IsNextDraft matrix listed line set last =
    (line ≡ history_line last) × IsListedDraft matrix (listed ++ last ∷ []) set last

-- the fault of line n, or refused memory
abbrev pub IsRefusal : Matrix → List (List SerialOp) → List ℕ → ℕ → Fault SpecFaultKind → Type 0
IsRefusal matrix listed line n (At kind number) =
    (number ≡ n) × IsFaultOfLine matrix listed line kind
IsRefusal matrix listed line n Memory = Unit {0}

-- The lines, of which the first is line 2, are those of listed histories up to one with this fault;
-- or memory was refused.
abbrev pub IsRefusalAmong : Matrix → List (List ℕ) → Fault SpecFaultKind → Type 0
IsRefusalAmong matrix lines (At kind n) = IsFaultAmong matrix lines kind n
IsRefusalAmong matrix lines Memory = Unit {0}

-- ---- what is returned of a line, which is line n, after the histories of a draft

-- the history of the line
abbrev pub FindsNext : {Z E : Type 0} → Matrix → List (List SerialOp) → List SerialOp → List ℕ
    → Result (Vec SerialOp Z) E → Type 0
FindsNext matrix set last line returned =
    (gathered : List (List SerialOp)) → IsGatheredDraft matrix gathered set last
    → IfOk returned (λ q. IsNextOf matrix gathered line q.items)

-- the draft with it
abbrev pub DraftsNext : {E : Type 0} → Matrix → List (List SerialOp) → List SerialOp → List ℕ
    → Result ListedDraft E → Type 0
DraftsNext matrix set last line returned =
    (listed : List (List SerialOp)) → IsListedDraft matrix listed set last
    → IfOk returned (λ next. IsNextDraft matrix listed line next.set next.last.items)

-- what is wrong with the line
abbrev pub Refuses : {A : Type 0} → Matrix → List (List SerialOp) → List SerialOp → List ℕ → ℕ
    → Result A (Fault SpecFaultKind) → Type 0
Refuses matrix set last line n returned =
    (gathered : List (List SerialOp)) → IsGatheredDraft matrix gathered set last
    → IfErr returned (IsRefusal matrix gathered line n)
