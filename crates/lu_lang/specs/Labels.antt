-- The labels of a component's text: which of them stands on which line of which operation.
use Rattle.std.specs.Prelude.{◌≡◌, ℕ, List, [], ◌∷◌, ◌++◌, map, Option, Some, None, is_some, option_and_then, slice_get, Ok, codes, ◌&&◌, not, if◌then◌else◌}
use Rattle.std.specs.Option.{option_map, unwrap_or}
use Rattle.std.specs.Str.{bytes_eq}
use Rattle.lu_text.specs.Names.{has_name_form, is_long}
use Rattle.lu_text.specs.Lines.{lines_of, words_of}
use Rattle.lu_text.specs.Words.{Word, exactly_one, exactly_two}
use Rattle.lu_text.specs.Faults.{meaning_of}
use Rattle.lu_component.specs.declared.instr.Instr.{Instr}
use Rattle.lu_component.specs.declared.instr.Instr.TheVariants.{Jump, JumpIfZero}
use Rattle.lu_component.specs.declared.component.Op.{Op}
use Rattle.lu_component.specs.Component.{Component}
use Rattle.lu_lang.specs.declared.keyword.Keyword.{Keyword}
use Rattle.lu_lang.specs.declared.keyword.Keyword.TheVariants as keyword
use Rattle.lu_lang.specs.Words.{keyword_in}
use Rattle.lu_lang.specs.Grammar.{component_grammar, label_in}

-- ---- the lines of operations

-- What a line tells, for each line with words between an `op` line and the next `end`: of the
-- operations that have their `end`, and of the one that has none yet.
pub record Marked : Type 0 where
  pub closed : List (List (Option Word))
  pub begun : Option (List (Option Word))

abbrev pub nothing_marked : Marked
nothing_marked = record { closed = []; begun = None }

-- outside operations `op` begins one
abbrev pub outside_line : Marked → Word → Marked
outside_line m first = if bytes_eq first (codes "op") then record m { begun = Some [] } else m

-- inside one `end` closes it, and each other line is an instruction of it
abbrev pub inside_line : Marked → List (Option Word) → Option Word → Word → Marked
inside_line m marks mark first =
    if bytes_eq first (codes "end") then record { closed = m.closed ++ marks ∷ []; begun = None }
    else record m { begun = Some (marks ++ mark ∷ []) }

-- a line with words, which tells this, where these are reported of the open operation, if there is
-- one
abbrev pub marked_line : Marked → Option (List (Option Word)) → Option Word → Word → Marked
marked_line m None mark first = outside_line m first
marked_line m (Some marks) mark first = inside_line m marks mark first

-- a line of these words
abbrev pub with_words : (List Word → Option Word) → Marked → List Word → Marked
with_words tells m [] = m
with_words tells m (first ∷ words) = marked_line m m.begun (tells (first ∷ words)) first

-- these lines
abbrev pub marked_after : (List Word → Option Word) → Marked → List (List ℕ) → Marked
marked_after tells m [] = m
marked_after tells m (line ∷ lines) =
    marked_after tells (with_words tells m (words_of line)) lines

-- of all operations, also of a last one that has no `end`
abbrev pub all_marks : Marked → Option (List (Option Word)) → List (List (Option Word))
all_marks m None = m.closed
all_marks m (Some marks) = m.closed ++ marks ∷ []

abbrev pub marks_of_lines : (List Word → Option Word) → Marked → List (List ℕ)
    → List (List (Option Word))
marks_of_lines tells m lines =
    let last = marked_after tells m lines in all_marks last last.begun

-- What the lines of the operations of a text tell, operation by operation.
abbrev pub by_operation : (List Word → Option Word) → List ℕ → List (List (Option Word))
by_operation tells text = marks_of_lines tells nothing_marked (lines_of text)

-- ---- labels

abbrev pub name_if : Word → Option Word
name_if word = if has_name_form word && not (is_long word) then Some word else None

-- the label of a line: a name with a colon after it, where its first word is one
abbrev pub label_on : List Word → Option Word
label_on [] = None
label_on (first ∷ words) = option_and_then name_if (label_in first)

-- The labels of a text: for each operation, and each of its instructions, the one that stands
-- before it, or none.
abbrev pub labels_of : List ℕ → List (List (Option Word))
labels_of text = by_operation label_on text

-- the label at a place, where there is one
abbrev pub label_at : List (Option Word) → ℕ → Option Word
label_at marks place = unwrap_or (slice_get marks place) None

-- the same of operation `op`
abbrev pub label_name : List (List (Option Word)) → ℕ → ℕ → Option Word
label_name labels op place = option_and_then (λ marks. label_at marks place) (slice_get labels op)

-- ---- jumps

-- the label that an instruction names
abbrev pub label_named : Option Keyword → List Word → Option Word
label_named (Some keyword.Jump) words = exactly_one words
label_named (Some keyword.JumpIfZero) words = option_map (λ w. w.1) (exactly_two words)
label_named _ words = None

abbrev pub jump_of : List Word → Option Word
jump_of [] = None
jump_of (word ∷ words) = label_named (keyword_in word) words

-- the label that a line jumps to, after its own label or without one
abbrev pub jump_on : List Word → Option Word
jump_on [] = None
jump_on (first ∷ words) =
    if is_some (label_in first) then jump_of words else jump_of (first ∷ words)

-- the labels to which the lines of a text's operations jump
abbrev pub jumps_of : List ℕ → List (List (Option Word))
jumps_of text = by_operation jump_on text

-- the place to which an instruction jumps
abbrev pub target_of : Instr → Option ℕ
target_of (Jump target) = Some target
target_of (JumpIfZero v target) = Some target
target_of _ = None

-- the label at the place to which an instruction jumps
abbrev pub led_to : List (Option Word) → Instr → Option Word
led_to marks i = option_and_then (label_at marks) (target_of i)

-- Each instruction jumps to the place of the label that its line names.
abbrev pub AreTargets : List Op → List (List (Option Word)) → List (List (Option Word)) → Type 0
AreTargets [] [] [] = Unit {0}
AreTargets (op ∷ operations) (marks ∷ labels) (names ∷ jumps) =
    (map (led_to marks) op.code ≡ names) × AreTargets operations labels jumps
AreTargets operations labels jumps = ⊥

-- in a text that is read, the labels stand where its jumps lead
abbrev pub JumpsLeadToLabels : Type 0
JumpsLeadToLabels =
    (text : List ℕ) (c : Component) → meaning_of component_grammar text ≡ Ok c →
    AreTargets c.operations (labels_of text) (jumps_of text)
