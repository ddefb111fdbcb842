-- What a draft becomes by one line.
use Rattle.std.specs.Prelude.{◌≡◌, List, Option, Some, Result, IfOk}
use Rattle.lu_text.specs.Faults.{fault_in, going_on}
use Rattle.lu_text.specs.Lines.{text_if, texts}
use Rattle.lu_text.specs.Words.{Word}
use denote.Ref.{MutBor}
use denote.Triple.Both.{Both}
use Rattle.lu_lang.specs.declared.fault.LangFaultKind.{LangFaultKind}
use Rattle.lu_lang.specs.declared.reading.CodeLine.{CodeLine}
use Rattle.lu_lang.specs.Draft.{OpenOp, ComponentDraft}
use Rattle.lu_lang.specs.Grammar.{end_line, instr_line}

-- a draft before and after a line
abbrev pub Changing : Type 0
Changing = Both (MutBor ComponentDraft) (MutBor ComponentDraft)

-- the draft after the line, and no fault; or the draft as it was, and the line's fault
abbrev pub Changes : Changing → Result ComponentDraft LangFaultKind → Option LangFaultKind → Type 0
Changes draft meant fault = (draft.exit.now, fault) ≡ going_on draft.entry.now meant

-- so it is unless memory ran out
abbrev pub Takes : {E : Type 0} → Changing → Result ComponentDraft LangFaultKind
    → Result (Option LangFaultKind) E → Type 0
Takes draft meant result = IfOk result (Changes draft meant)

-- ---- in an operation that is open, which is taken out of the draft meanwhile

-- the draft after the line, and no fault; or with that operation as it was, and the line's fault
abbrev pub TakesInside : {E : Type 0} → Changing → OpenOp → Result ComponentDraft LangFaultKind
    → Result (Option LangFaultKind) E → Type 0
TakesInside draft b meant result =
    IfOk result (λ fault.
    (draft.exit.now, fault) ≡ going_on (record draft.entry.now { begun = Some b }) meant)

-- what the line says: a label or none, and an instruction
abbrev pub code_read : ComponentDraft → OpenOp → CodeLine → Result ComponentDraft LangFaultKind
code_read d b code = instr_line d b (text_if code.label) code.word.now (texts code.rest.now)

-- what is wrong with `end` and these words, whatever else is declared
abbrev pub Closes : OpenOp → List Word → Option LangFaultKind → Type 0
Closes b words fault = (d : ComponentDraft) → fault ≡ fault_in (end_line d b words)
