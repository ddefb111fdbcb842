-- The faults of a component's text, each line read as it was meant.
use Rattle.std.specs.Prelude.{ℕ, Bool, List, [], map, Option, Some, None, Result, Ok, Err, if◌then◌else◌}
use Rattle.lu_component.specs.Component.{Component}
use Rattle.lu_lang.specs.declared.fault.LangFaultKind.{LangFaultKind}
use Rattle.lu_lang.specs.declared.fault.LangFaultKind.TheVariants.{Name}
use Rattle.lu_lang.specs.Faulty.{FaultyDraft}
use Rattle.lu_lang.specs.Grammar.{component_grammar}
use Rattle.lu_text.specs.Faults.{fault_in, meaning_of_lines}
use Rattle.lu_lang.specs.Meant.{faulty_grammar, mend_faulty}
use Rattle.lu_lang.specs.FaultLines.{backs, left_backs, open_backs}
use Rattle.lu_lint.specs.declared.component.ReadComponent.{ReadComponent}
use Rattle.lu_lint.specs.declared.component.ReadComponent.TheVariants as read
use Rattle.lu_lint.specs.declared.remark.Position.{Position}
use Rattle.lu_lint.specs.declared.remark.Said.{Said}
use Rattle.lu_lint.specs.declared.remark.FaultKind.TheVariants as part
use Rattle.lu_lint.specs.Lint as lint
use Rattle.lu_lint.specs.Lint.{Lint, draft_after, end_messages, message_before, line_messages}
use Rattle.lu_lint.specs.Said.{said_faults}

abbrev pub faulty_backs : FaultyDraft → List ℕ → LangFaultKind → List ℕ
faulty_backs f line kind = backs f.draft line kind

-- jumps to labels that are not there, this many lines with words before a line
abbrev pub jumps : List ℕ → List (LangFaultKind × ℕ)
jumps backs = map (λ back. (Name, back)) backs

-- the jumps of an operation that a line with another fault closes
abbrev pub faulty_others : FaultyDraft → List ℕ → List (List ℕ) → LangFaultKind
    → List (LangFaultKind × ℕ)
faulty_others f line lines kind = jumps (left_backs f.draft line lines kind)

-- those of one that is open at the end
abbrev pub faulty_end_others : FaultyDraft → List (LangFaultKind × ℕ)
faulty_end_others f = jumps (open_backs f.draft.begun)

abbrev pub component_lint : Lint LangFaultKind FaultyDraft Component
component_lint = record {
  grammar = faulty_grammar;
  mend = mend_faulty;
  backs = faulty_backs;
  others = faulty_others;
  end_others = faulty_end_others;
  of = part.Component;
}

-- by how many lines with words the jumps stand before a line that are reported beside its fault
abbrev pub backs_beside : FaultyDraft → List ℕ → List (List ℕ) → Option LangFaultKind → List ℕ
backs_beside f line lines None = []
backs_beside f line lines (Some kind) = left_backs f.draft line lines kind

-- the draft from which the lines after a line are read, where the line left this or has a fault
abbrev pub left_by : FaultyDraft → List ℕ → List (List ℕ) → Option LangFaultKind → FaultyDraft
left_by f line lines fault = lint.left_by mend_faulty f line lines fault

-- ---- what a text is read as

-- the component, where there is one, and else what the lines left
abbrev pub read_or_left : {E : Type 0} → Result Component E → FaultyDraft → ReadComponent
read_or_left (Ok c) left = read.Sound c
read_or_left (Err e) left = read.Faulty left

-- what the lines of a component leave, each read as it was meant
abbrev pub faulty_of_lines : List (List ℕ) → FaultyDraft
faulty_of_lines lines = draft_after component_lint component_lint.grammar.nothing lines

-- what these lines are read as, each as it was meant
abbrev pub read_of_lines : List (List ℕ) → ReadComponent
read_of_lines lines =
    read_or_left (meaning_of_lines component_lint.grammar lines) (faulty_of_lines lines)

-- where the lines left this, and have no fault or some
abbrev pub read_as : FaultyDraft → Bool → ReadComponent
read_as f sound =
    if sound then read_or_left (component_grammar.finish f.draft) f else read.Faulty f

-- ---- what is said, of a line that stands here

-- of jumps to labels that are not there, this many lines with words before it
abbrev pub jumps_said : Position → LangFaultKind → List ℕ → List Said
jumps_said at kind backs =
    said_faults part.Component at.above (map (message_before at.seen.items at.line kind) backs)

-- of the line, where it has a fault
abbrev pub line_said : Position → FaultyDraft → List ℕ → Option LangFaultKind → List Said
line_said at f line fault =
    said_faults part.Component at.above
    (line_messages component_lint at.seen.items at.line f line fault)

-- of the end of the text, where it has a fault
abbrev pub end_said : Position → FaultyDraft → List Said
end_said at f =
    said_faults part.Component at.above
    (end_messages at.seen.items at.line (faulty_end_others f) (fault_in (faulty_grammar.finish f)))
