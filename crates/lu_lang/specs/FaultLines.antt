-- Where the messages of a fault stand, where that is not the fault's line: a jump to a label that
-- is not there is a fault of `end`, and its message stands on the jump's line.
use Rattle.std.specs.Prelude.{ℕ, ◌-◌, Bool, false, List, [], ◌∷◌, length, map, filter, Option, Some, None, codes, ◌||◌, not, if◌then◌else◌}
use Rattle.std.specs.List.{enumerate_from}
use Rattle.std.specs.Str.{bytes_eq}
use Rattle.lu_text.specs.Lines.{words_of}
use Rattle.lu_text.specs.Words.{Word}
use Rattle.lu_lang.specs.declared.fault.LangFaultKind.{LangFaultKind}
use Rattle.lu_lang.specs.declared.fault.LangFaultKind.TheVariants.{Name}
use Rattle.lu_lang.specs.declared.draft.Statement.{Statement}
use Rattle.lu_lang.specs.Draft.{OpenOp, ComponentDraft}
use Rattle.lu_lang.specs.Grammar.{is_there, label_used}
use Rattle.lu_lang.specs.Mend.{after_label, closes, line_label, next_words}

-- this label is the one that is used
abbrev pub is_used : Option Word → Option Word → Bool
is_used (Some label) (Some used) = bytes_eq used label
is_used label used = false

-- a jump to a label that the operation does not have, nor the line that closes it
abbrev pub leads_nowhere : OpenOp → Option Word → Statement → Bool
leads_nowhere b label s =
    not (is_there b.labels (label_used s) || is_used label (label_used s))

-- for each such jump, how many instructions stand from it on
abbrev pub jump_backs : OpenOp → Option Word → List ℕ
jump_backs b label =
    map (λ s. length b.statements - s.0)
    (filter (λ s. leads_nowhere b label s.1) (enumerate_from 0 b.statements))

-- the same of the operation that is open, where one is
abbrev pub open_backs : Option OpenOp → List ℕ
open_backs None = []
open_backs (Some b) = jump_backs b None

abbrev pub is_end : List Word → Bool
is_end [] = false
is_end (word ∷ words) = bytes_eq word (codes "end")

-- By how many lines with words each message of a fault of this kind stands before the line; one
-- message stands on the line itself where there is none of these.
abbrev pub backs : ComponentDraft → List ℕ → LangFaultKind → List ℕ
backs d line Name = if is_end (words_of line) then open_backs d.begun else []
backs d line kind = []

-- ---- jumps of an operation that a line with another fault closes

-- a line of these words, where an operation is open
abbrev pub closed_backs : Option OpenOp → List Word → List Word → List ℕ
closed_backs None words next = []
closed_backs (Some b) words next =
    if closes (after_label words) next then jump_backs b (line_label words) else []

-- By how many lines with words each jump to a label that is not there stands before a line, before
-- these lines, that has a fault of another kind and closes the operation nevertheless.
abbrev pub left_backs : ComponentDraft → List ℕ → List (List ℕ) → LangFaultKind → List ℕ
left_backs d line lines Name = []
left_backs d line lines kind = closed_backs d.begun (words_of line) (next_words lines)
