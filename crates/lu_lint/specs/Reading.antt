-- What lint reads of a component, line by line.
use Rattle.std.specs.Prelude.{◌≡◌, ℕ, List, ◌++◌, map, Bool, IfOk, Option, Result, is_none, ◌&&◌}
use Rattle.lu_text.specs.Faults.{going_on}
use Rattle.std.specs.Global.{Vec}
use Rattle.lu_text.specs.Lines.{words_of}
use Rattle.lu_text.specs.Words.{Word}
use Rattle.lu_lang.specs.declared.fault.LangFaultKind.{LangFaultKind}
use Rattle.lu_lang.specs.declared.fault.LangFaultKind.TheVariants.{Name}
use Rattle.lu_lang.specs.Faulty.{FaultyDraft}
use Rattle.lu_lang.specs.Meant.{faulty_grammar}
use Rattle.lu_lint.specs.declared.component.Reading.{Reading}
use Rattle.lu_lint.specs.declared.remark.Position.{Position}
use Rattle.lu_lint.specs.declared.remark.Remark.{Remark}
use Rattle.lu_lint.specs.declared.remark.Said.{Said}
use Rattle.lu_lint.specs.Bundle.{held_of}
use Rattle.lu_lint.specs.Component.{backs_beside, end_said, jumps_said, left_by, line_said, read_as}
use Rattle.lu_lint.specs.Lint.{seen_with}
use Rattle.lu_lint.specs.Said.{SaysAndReads, said_of}
use Rattle.lu_lint.specs.Warnings.{Possible, found_at, hints_while, without_words}

-- a line after this draft: the draft after it, or the one before it and the line's fault
abbrev pub line_read : FaultyDraft → List ℕ → FaultyDraft × Option LangFaultKind
line_read f line = going_on f (faulty_grammar.line f line)

-- what is said of a line that stands here, where it has a fault, and of the jumps that are reported
-- beside it; `lines` are those after it
abbrev pub all_on_line : Position → FaultyDraft → List ℕ → List (List ℕ)
    → Option LangFaultKind
    → List Said
all_on_line at f line lines fault =
    line_said at f line fault ++ jumps_said at Name (backs_beside f line lines fault)

-- A line at which what was said before is said, and these, and which leaves this draft and has this
-- fault or none; `lines` are those after it.
pub record LeavesDraft (at : Position) (f : FaultyDraft) (line : List ℕ) (lines : List (List ℕ))
    (before next : List Said) (left : FaultyDraft) (fault : Option LangFaultKind) : Type 0 where
  pub said : next ≡ before
      ++ all_on_line at (line_read f line).0 line lines (line_read f line).1
  pub left_is : left ≡ left_by (line_read f line).0 line lines (line_read f line).1
  pub fault_is : fault ≡ (line_read f line).1

-- the draft is read so, where that succeeds, and these remarks are those before with what is said
abbrev pub ReadsDraft : {E : Type 0} → Result (Vec Remark × FaultyDraft × Option LangFaultKind) E
    → Vec Remark → Position → FaultyDraft → List ℕ → List (List ℕ) → Type 0
ReadsDraft result before at f line lines =
    IfOk result (λ (next, left, fault).
    LeavesDraft at f line lines (said_of before.items) (said_of next.items) left fault)

-- what may be warned of at a line of these words that stands here, where no line before it has a
-- fault
abbrev pub hints_at : Position → Bool → FaultyDraft → List Word → List Possible
hints_at at sound f words = map (found_at at) (hints_while sound f.draft words)

-- where line n stands, after what is read
abbrev pub line_at : Reading → ℕ → Position
line_at r n = record { above = 0; line = n; seen = r.seen }

-- The warnings are found too of a line of these words, which is line n, and nothing else is
-- changed.
pub record FindsAt (r : Reading) (n : ℕ) (words : List Word) (next : Reading) : Type 0 where
  pub found : map without_words next.warnings.items ≡ map without_words r.warnings.items
      ++ hints_at (line_at r n) r.sound r.draft words
  pub others : next ≡ record r { warnings = next.warnings }

-- What is left after line n, of these words, of which the warnings are found; `lines` are those
-- after it.
pub record ReadsFound (r : Reading) (n : ℕ) (line : List ℕ) (words : List Word)
    (lines : List (List ℕ)) (next : Reading) : Type 0 where
  pub said : said_of next.all.items ≡ said_of r.all.items
      ++ all_on_line (line_at r n) (line_read r.draft line).0 line lines
      (line_read r.draft line).1
  pub left : next.draft ≡ left_by (line_read r.draft line).0 line lines (line_read r.draft line).1
  pub sound : next.sound ≡ (r.sound && is_none (line_read r.draft line).1)
  pub found : next.warnings.items ≡ r.warnings.items
  pub seen : next.seen.items ≡ seen_with r.seen.items n words

-- that is left, where it succeeds
abbrev pub ReadsRest : {E : Type 0} → Result Reading E → Reading → ℕ → List ℕ → List Word
    → List (List ℕ) → Type 0
ReadsRest result r n line words lines =
    IfOk result (λ next. ReadsFound r n line words lines next)

-- what is left after one line more, which is line n; `lines` are those after it
abbrev pub ReadsOn : Reading → ℕ → List ℕ → List (List ℕ) → Reading → Type 0
ReadsOn r n line lines next =
    (found : Reading) × FindsAt r n (words_of line) found
    × ReadsFound found n line (words_of line) lines next

-- what is said at the end, on line n, after what is read
abbrev pub all_end_said : Reading → ℕ → List Said
all_end_said r n =
    end_said (line_at r n) r.draft
    ++ held_of (read_as r.draft r.sound) (map without_words r.warnings.items)

-- that is said at the end, and this is what the lines are read as
abbrev pub ReadsEnd : {E V : Type 0} → Result (Vec Remark × V) E → Reading → ℕ → V → Type 0
ReadsEnd result r n value = SaysAndReads result r.all (all_end_said r n) value
