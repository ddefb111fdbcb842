-- All faults of a text that is read by lines.
use Rattle.std.specs.Prelude.{◌≡◌, ℕ, ◌+◌, ◌-◌, List, [], ◌∷◌, ◌++◌, length, map, Option, Some, None, Result, Ok, Err, slice_get, ◌==◌, if◌then◌else◌}
use Rattle.std.specs.Option.{unwrap_or}
use Rattle.lu_text.specs.declared.fault.Fault.{Fault}
use Rattle.lu_text.specs.declared.fault.Fault.TheVariants.{At}
use Rattle.lu_text.specs.Lines.{lines_of, words_of}
use Rattle.lu_text.specs.Words.{Word}
use Rattle.lu_text.specs.Faults.{Grammar}
use Rattle.lu_lint.specs.declared.remark.FaultKind.{FaultKind}

-- The message of a fault: of which kind and of which line the fault is, and on which line it is
-- shown.
pub record Message (Kind : Type 0) : Type 0 where
  pub kind : Kind
  pub line : ℕ
  pub shown_on : ℕ

-- How a text is read after its first fault. A line that has a fault leaves `mend` of the draft
-- before it, of the line, and of the lines after it. Each message stands one of `backs` lines with
-- words before the line; one stands on the line itself where that is empty. Beside the fault
-- `others` are reported, each a kind, and by how many lines with words its message stands before
-- the line; and `end_others` beside a fault of the end. `of` says of which part such a fault is.
pub record Lint (Kind Draft Value : Type 0) : Type 0 where
  pub grammar : Grammar Kind Draft Value
  pub mend : Draft → List ℕ → List (List ℕ) → Draft
  pub backs : Draft → List ℕ → Kind → List ℕ
  pub others : Draft → List ℕ → List (List ℕ) → Kind → List (Kind × ℕ)
  pub end_others : Draft → List (Kind × ℕ)
  pub of : Kind → FaultKind

-- the lines with words so far, with line n, of these words
abbrev pub seen_with : List ℕ → ℕ → List Word → List ℕ
seen_with seen n words = if length words == 0 then seen else seen ++ n ∷ []

abbrev pub with_words : List ℕ → ℕ → List ℕ → List ℕ
with_words seen n line = seen_with seen n (words_of line)

-- the line this many lines with words before line n
abbrev pub line_before : List ℕ → ℕ → ℕ → ℕ
line_before seen n back = unwrap_or (slice_get seen (length seen - back)) n

-- that of a fault of line n, shown on this line
abbrev pub message_on : {Kind : Type 0} → ℕ → Kind → ℕ → Message Kind
message_on n kind line = record { kind = kind; line = n; shown_on = line }

-- shown on the line this many lines with words before it
abbrev pub message_before : {Kind : Type 0} → List ℕ → ℕ → Kind → ℕ → Message Kind
message_before seen n kind back = message_on n kind (line_before seen n back)

-- shown on its line
abbrev pub message_here : {Kind : Type 0} → ℕ → Kind → Message Kind
message_here n kind = message_on n kind n

-- the messages of a fault of line n
abbrev pub messages : {Kind : Type 0} → List ℕ → ℕ → Kind → List ℕ → List (Message Kind)
messages seen n kind [] = message_here n kind ∷ []
messages seen n kind (back ∷ backs) = map (message_before seen n kind) (back ∷ backs)

-- the same, where there is one
abbrev pub line_messages : {Kind Draft Value : Type 0} → Lint Kind Draft Value → List ℕ → ℕ → Draft
    → List ℕ
    → Option Kind
    → List (Message Kind)
line_messages l seen n d line None = []
line_messages l seen n d line (Some kind) = messages seen n kind (l.backs d line kind)

-- the messages of others beside a fault of line n
abbrev pub other_messages : {Kind : Type 0} → List ℕ → ℕ → List (Kind × ℕ) → List (Message Kind)
other_messages seen n others = map (λ other. message_before seen n other.0 other.1) others

-- the same of a line, before these lines, where it has a fault
abbrev pub messages_beside : {Kind Draft Value : Type 0} → Lint Kind Draft Value → List ℕ → ℕ → Draft
    → List ℕ
    → List (List ℕ)
    → Option Kind
    → List (Message Kind)
messages_beside l seen n d line lines None = []
messages_beside l seen n d line lines (Some kind) = other_messages seen n (l.others d line lines kind)

-- the fault of the end, on line n, where there is one, and others beside it
abbrev pub end_messages : {Kind : Type 0} → List ℕ → ℕ → List (Kind × ℕ) → Option Kind
    → List (Message Kind)
end_messages seen n others None = []
end_messages seen n others (Some kind) = message_here n kind ∷ other_messages seen n others

abbrev pub end_faults : {Kind A : Type 0} → List ℕ → ℕ → List (Kind × ℕ) → Result A Kind
    → List (Message Kind)
end_faults seen n others (Ok x) = []
end_faults seen n others (Err kind) = message_here n kind ∷ other_messages seen n others

-- the draft from which the lines after a line are read, where the line left this or has a fault
abbrev pub left_by : {Kind Draft : Type 0} → (Draft → List ℕ → List (List ℕ) → Draft) → Draft
    → List ℕ
    → List (List ℕ)
    → Option Kind
    → Draft
left_by mend d line lines None = d
left_by mend d line lines (Some kind) = mend d line lines

-- what a line gives, which is line n, and then the lines after it: from the next draft, or, where
-- the line has a fault, that fault, the others beside it, and then the lines from what it leaves
abbrev pub then_faults : {Kind Draft Value : Type 0} → Lint Kind Draft Value → List ℕ → ℕ → Draft
    → List ℕ
    → List (List ℕ)
    → Result Draft Kind
    → (Draft → List (Message Kind))
    → List (Message Kind)
then_faults l seen n d line lines (Ok next) rest = rest next
then_faults l seen n d line lines (Err kind) rest =
    messages seen n kind (l.backs d line kind)
    ++ (other_messages seen n (l.others d line lines kind) ++ rest (l.mend d line lines))

-- the faults of these lines, which begin with line n, after this draft
unfoldable pub faults_after : {Kind Draft Value : Type 0} → Lint Kind Draft Value → List ℕ → ℕ
    → Draft
    → List (List ℕ)
    → List (Message Kind)
faults_after l seen n d [] = end_faults seen n (l.end_others d) (l.grammar.finish d)
faults_after l seen n d (line ∷ lines) =
    then_faults l seen n d line lines (l.grammar.line d line)
    (λ next. faults_after l (with_words seen n line) (n + 1) next lines)

-- the faults of a text's lines
abbrev pub faults_of_lines : {Kind Draft Value : Type 0} → Lint Kind Draft Value → List (List ℕ)
    → List (Message Kind)
faults_of_lines l lines = faults_after l [] 1 l.grammar.nothing lines

-- the faults of a text
abbrev pub faults_in : {Kind Draft Value : Type 0} → Lint Kind Draft Value → List ℕ
    → List (Message Kind)
faults_in l text = faults_of_lines l (lines_of text)

-- what a reader and lint say of one text: it is read where there is no fault, and else the first
-- fault is the reader's
abbrev pub AgreeOnText : {Kind A : Type 0} → Result A (Fault Kind) → List (Message Kind) → Type 0
AgreeOnText (Ok x) [] = Unit {0}
AgreeOnText (Ok x) (first ∷ others) = ⊥
AgreeOnText (Err e) [] = ⊥
AgreeOnText (Err e) (first ∷ others) = e ≡ At first.kind first.line

-- the draft that these lines leave, with faults or without
abbrev pub left_after : {Kind Draft Value : Type 0} → Lint Kind Draft Value → Draft → List ℕ
    → List (List ℕ)
    → Result Draft Kind
    → Draft
left_after l d line lines (Ok next) = next
left_after l d line lines (Err kind) = l.mend d line lines

unfoldable pub draft_after : {Kind Draft Value : Type 0} → Lint Kind Draft Value → Draft
    → List (List ℕ)
    → Draft
draft_after l d [] = d
draft_after l d (line ∷ lines) =
    draft_after l (left_after l d line lines (l.grammar.line d line)) lines
