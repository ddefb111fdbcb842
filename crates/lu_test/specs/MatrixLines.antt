-- What a draft of a matrix becomes by one line.
use Rattle.std.specs.Prelude.{◌≡◌, ℕ, List, Option, Result, IfOk}
use Rattle.lu_text.specs.Faults.{going_on}
use denote.Ref.{Bor, MutBor}
use denote.Triple.Both.{Both}
use Rattle.lu_test.specs.declared.matrix_fault.MatrixFaultKind.{MatrixFaultKind}
use Rattle.lu_test.specs.MatrixText.{MatrixDraft, all_words, by_parts}
use Rattle.lu_test.specs.Signatures.{Signature}

-- a draft before and after a line
abbrev pub Changing : Type 0
Changing = Both (MutBor MatrixDraft) (MutBor MatrixDraft)

-- the draft after the line, and no fault; or the draft as it was, and the line's fault; unless
-- memory ran out
abbrev pub Takes : {E : Type 0} → Changing → Result MatrixDraft MatrixFaultKind
    → Result (Option MatrixFaultKind) E → Type 0
Takes draft meant result =
    IfOk result (λ fault. (draft.exit.now, fault) ≡ going_on draft.entry.now meant)

-- what a line says whose first part has these words, and its other parts
abbrev pub by_words : List Signature → MatrixDraft → List (Bor (List ℕ)) → List (Bor (List ℕ))
    → Result MatrixDraft MatrixFaultKind
by_words signatures draft words others = by_parts signatures draft (all_words words others)
