-- What a line with a fault leaves, so that the lines after it are reported for their own faults
-- alone.
use denote.Ref.{Bor}
use Rattle.std.specs.Prelude.{◌≡◌, ℕ, ◌-◌, Bool, false, List, [], ◌∷◌, ◌++◌, length, take, slice_index, Option, Some, None, is_some, codes, ◌==◌, ◌&&◌, ◌||◌, not, nat_le, if◌then◌else◌}
use Rattle.std.specs.Str.{bytes_eq}
use Rattle.lu_text.specs.Names.{has_name_form, is_long}
use Rattle.lu_text.specs.Lines.{texts, words_of}
use Rattle.lu_text.specs.Words.{Word}
use Rattle.lu_component.specs.declared.instr.Operand.TheVariants.{Num}
use Rattle.lu_component.specs.declared.instr.Instr.TheVariants.{Return}
use Rattle.lu_lang.specs.declared.draft.Statement.TheVariants.{Plain}
use Rattle.lu_lang.specs.Draft.{OpenOp, ComponentDraft, op_begun}
use Rattle.lu_lang.specs.Words.{keyword_in}
use Rattle.lu_lang.specs.Grammar.{label_in, op_of, closed}

-- the word without a comma or a semicolon after it
abbrev pub bare : Word → Word
bare word =
    if slice_index word (length word - 1) == 44 then take (length word - 1) word
    else (if slice_index word (length word - 1) == 59 then take (length word - 1) word else word)

-- the word, where it is a name, and else `_`
abbrev pub name_or_blank : Word → Word
name_or_blank word = if has_name_form word && not (is_long word) then word else codes "_"

-- the name that the first word is to be
abbrev pub first_name : List Word → Word
first_name [] = codes "_"
first_name (word ∷ words) = name_or_blank (bare word)

-- the array that these words declare, where there is room
abbrev pub with_array : ComponentDraft → List Word → ComponentDraft
with_array d words =
    if nat_le 16 (length d.arrays) then d
    else record d {
      arrays = d.arrays ++ record { name = first_name words; len = 64; init = 0 } ∷ [];
    }

-- the lock
abbrev pub with_lock : ComponentDraft → List Word → ComponentDraft
with_lock d words =
    if nat_le 8 (length d.locks) then d
    else record d { locks = d.locks ++ first_name words ∷ [] }

-- the operation that these words begin
abbrev pub with_op : ComponentDraft → List Word → ComponentDraft
with_op d words = record d { begun = Some (op_begun (first_name words) 0) }

-- the operation with a line's label, of which no more are kept than a thousand or so
abbrev pub op_labelled : OpenOp → Option Word → OpenOp
op_labelled b None = b
op_labelled b (Some label) =
    if nat_le 1024 (length b.labels) then b
    else record b { labels = b.labels ++ record { name = name_or_blank label; place = 0 } ∷ [] }

-- `return 0` stands in this operation
abbrev pub with_return : ComponentDraft → OpenOp → ComponentDraft
with_return d b =
    record d {
      begun = Some (record b { statements = b.statements ++ Plain (Return (Num 0)) ∷ [] });
    }

-- ---- what the words of a line show

-- the label of a line, where its first word is one
abbrev pub line_label : List Word → Option Word
line_label [] = None
line_label (word ∷ words) = label_in (bare word)

-- its words after the label
abbrev pub after_label : List Word → List Word
after_label [] = []
after_label (word ∷ words) = if is_some (label_in (bare word)) then words else word ∷ words

-- the words of the first of these lines that has any
abbrev pub next_words : List (List ℕ) → List Word
next_words [] = []
next_words (line ∷ lines) =
    if length (words_of line) == 0 then next_words lines else words_of line

-- a label, or an instruction's first word that begins no declaration too
abbrev pub is_code : Word → Bool
is_code word =
    is_some (label_in word) || is_some (keyword_in word) && not (bytes_eq word (codes "lock"))

-- a line that stands inside an operation alone
abbrev pub begins_code : List Word → Bool
begins_code [] = false
begins_code (word ∷ words) = is_code word || bytes_eq word (codes "end")

-- a line that stands outside operations alone
abbrev pub begins_outside : List Word → Bool
begins_outside [] = false
begins_outside (word ∷ words) = bytes_eq word (codes "op") || bytes_eq word (codes "word")

-- A line of these words, after its label, closes the operation that is open before it; at `word`
-- the next line decides.
abbrev pub closes : List Word → List Word → Bool
closes [] next = false
closes (word ∷ words) next =
    bytes_eq (bare word) (codes "op")
    || (bytes_eq (bare word) (codes "end")
    || bytes_eq (bare word) (codes "word") && begins_outside next)

-- ---- a line by its words, and by those of the next line

-- Outside an operation a declaration declares its name. Before a line of an operation `op` was
-- meant, or, where the line is an instruction, an `op` line is missing before it.
abbrev pub mend_outside : ComponentDraft → List Word → List Word → ComponentDraft
mend_outside d [] next = d
mend_outside d (word ∷ words) next =
    if bytes_eq (bare word) (codes "word") then with_array d words
    else (if bytes_eq (bare word) (codes "lock") then with_lock d words
    else (if bytes_eq (bare word) (codes "op") then with_op d words
    else (if not (begins_code next) || bytes_eq (bare word) (codes "end") then d
    else (if is_code (bare word)
    then with_return d (op_labelled (op_begun (codes "_") 0) (label_in (bare word)))
    else with_op d words))))

-- Inside an operation a line that closes it stands outside; each other is an instruction, and
-- `word` declares an array too.
abbrev pub mend_inside : ComponentDraft → OpenOp → List Word → List Word → ComponentDraft
mend_inside d b [] next = with_return d b
mend_inside d b (word ∷ words) next =
    if closes (word ∷ words) next
    then mend_outside (record d { operations = d.operations ++ op_of b ∷ [] }) (word ∷ words) next
    else (if bytes_eq (bare word) (codes "word") then with_return (with_array d words) b
    else with_return d b)

-- By the component's name and the open operation, where they are there. Where there is no
-- `component` line yet, the component is called `_`, and no operation is open. An open operation
-- has the label of the line too.
abbrev pub mend_by_name : ComponentDraft → Option Word → Option OpenOp → List Word → List Word
    → ComponentDraft
mend_by_name d None b words next = mend_outside (record d { name = Some (codes "_") }) words next
mend_by_name d (Some name) None words next = mend_outside d words next
mend_by_name d (Some name) (Some b) words next =
    mend_inside d (op_labelled b (line_label words)) (after_label words) next

-- a line of these words
abbrev pub mend_words : ComponentDraft → List Word → List Word → ComponentDraft
mend_words d [] next = d
mend_words d (word ∷ words) next = mend_by_name (closed d) d.name d.begun (word ∷ words) next

-- the draft becomes so, by the words of a line and those of the next line
abbrev pub Mends : (ComponentDraft → List Word → List Word → ComponentDraft) → ComponentDraft
    → ComponentDraft → List (Bor Word) → List (Bor Word) → Type 0
Mends mended old new words next = new ≡ mended old (texts words) (texts next)

-- what a line with a fault leaves, before these lines
abbrev pub mend : ComponentDraft → List ℕ → List (List ℕ) → ComponentDraft
mend d line lines = mend_words d (words_of line) (next_words lines)
