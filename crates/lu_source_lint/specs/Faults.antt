-- Every fault of a source's text: the first one, and then those that are left where the faulty line
-- is read as it may have been meant.
use Rattle.std.specs.Prelude.{◌≡◌, ℕ, zero, suc, ◌-◌, ◌==◌, nat_lt, min, Bool, true, false, not, ◌&&◌, ◌||◌, List, [], ◌∷◌, ◌++◌, length, map, set, take, Option, Some, None, Result, Ok, Err, Vec, codes, if◌then◌else◌}
use Rattle.std.specs.List.{list_any, position, slice_get}
use Rattle.std.specs.Option.{unwrap_or}
use Rattle.lu_text.specs.declared.fault.Fault.{Fault}
use Rattle.lu_text.specs.declared.fault.Fault.TheVariants.{At, Memory}
use Rattle.lu_text.specs.Faults.{meaning_of_lines}
use denote.Ref.{Bor}
use Rattle.lu_text.specs.Lines.{lines_of, texts}
use Rattle.lu_text.specs.Names.{has_name_form}
use Rattle.lu_text.specs.Words.{Word}
use Rattle.lu_source.specs.Trees.{Program}
use Rattle.lu_source_text.specs.declared.fault.SourceFaultKind.{SourceFaultKind as Kind}
use Rattle.lu_source_text.specs.declared.fault.SourceFaultKind.TheVariants.{Flow, Form, Limit, Missing}
use Rattle.lu_source_text.specs.Grammar.{is_word, source_grammar, source_words, where_some}
use Rattle.lu_source_lint.specs.declared.faults.LineFault.{LineFault}
use Rattle.lu_source_lint.specs.declared.message.SourceMessage.{SourceMessage}
use Rattle.lu_source_lint.specs.declared.message.What.TheVariants.{Fault as AFault}

-- ---- what a faulty line may have meant

-- whether word i of a line is this one
abbrev pub word_is : List Word → ℕ → List ℕ → Bool
word_is words i text = where_some (slice_get words i) false (λ word. is_word word text)

abbrev pub is_missing : Kind → Bool
is_missing Missing = true
is_missing _ = false

-- whether the last word of a line opens a block
abbrev pub opens : List Word → Bool
opens words = word_is words (length words - 1) (codes "{")

-- whether a line opens a block and closes it again
abbrev pub is_whole_block : List Word → Bool
is_whole_block words =
    not (word_is words 0 (codes "}")) && word_is words (length words - 1) (codes "}")

-- what leaves a block
abbrev pub jumps : Word → Bool
jumps word =
    is_word word (codes "return") || (is_word word (codes "break")
    || is_word word (codes "continue"))

abbrev pub has_jump : List Word → Bool
has_jump words = list_any jumps words

-- whether a line is an `if` or a `while` with what it does, and without braces
abbrev pub is_inline : List Word → Bool
is_inline words =
    (word_is words 0 (codes "if") || word_is words 0 (codes "while"))
    && (has_jump words && not (opens words))

-- whether a line is a `{` that stands alone, and so belongs to the line above
abbrev pub is_brace_alone : List Word → Bool
is_brace_alone words = length words == 1 && word_is words 0 (codes "{")

abbrev pub is_no_dash : Word → Bool
is_no_dash word = not (is_word word (codes "-"))

abbrev pub has_no_dash : List Word → Bool
has_no_dash words = list_any is_no_dash words

-- whether a line is nearly `---`, which separates parts: two dashes or more, and nothing else
abbrev pub is_dashes : List Word → Bool
is_dashes words = nat_lt 1 (length words) && not (has_no_dash words)

abbrev pub ends_arguments : Word → Bool
ends_arguments word = is_word word (codes ")") || is_word word (codes "{")

-- where the arguments of a line end that begins an operation
abbrev pub arguments_end : List Word → ℕ
arguments_end words = unwrap_or (position ends_arguments words) (length words)

-- How many words of a faulty line stay, and what stands after them in place of the others: of a line
-- that begins with `}`, and of one that begins with `op`, of which the first 4 arguments stay.
abbrev pub meant_end : List Word → ℕ × List ℕ
meant_end words =
    if not (opens words || word_is words 1 (codes "else")) then (1, [])
    else (if word_is words 2 (codes "if") then (1, codes "else if 1 {") else (1, codes "else {"))

abbrev pub meant_op : List Word → ℕ × List ℕ
meant_op words =
    if nat_lt (arguments_end words) 3 || not (word_is words 2 (codes "(")) then (2, codes "() {")
    else (min (arguments_end words) 10, codes ") {")

-- The same of any line, by its fault and its first word: a name that the line declares is declared,
-- a block that it begins is open (also where its `{` is missing, or alone on the next line), one
-- that it also closes or that has no braces is left out, and one that should have named the object
-- names it.
abbrev pub meant : Kind → List Word → ℕ × List ℕ
meant kind words =
    if is_missing kind || word_is words 0 (codes "object") then (0, codes "object a")
    else (if is_whole_block words || (is_brace_alone words || is_inline words) then (0, [])
    else (if word_is words 0 (codes "let") || word_is words 0 (codes "const") then (2, codes "= 1")
    else (if word_is words 0 (codes "word") && word_is words 2 (codes "[") then (2, codes "[1]")
    else (if word_is words 0 (codes "word") || word_is words 0 (codes "lock") then (2, [])
    else (if word_is words 0 (codes "op") then meant_op words
    else (if word_is words 0 (codes "if") || word_is words 0 (codes "while") then (1, codes "1 {")
    else (if word_is words 0 (codes "loop") then (1, codes "{")
    else (if word_is words 0 (codes "}") then meant_end words
    else (if opens words || word_is words 0 (codes "else") then (0, codes "if 1 {")
    else (0, []))))))))))

-- each word, and a blank after it
abbrev pub spelled : List Word → List ℕ
spelled [] = []
spelled (word ∷ words) = word ++ 32 ∷ spelled words

-- this many words, and what stands after them
abbrev pub line_with : List Word → ℕ × List ℕ → List ℕ
line_with words (count, after) = spelled (take count words) ++ after

abbrev pub meant_line : Kind → List ℕ → List ℕ
meant_line kind line = line_with (source_words line) (meant kind (source_words line))

-- ---- one fault after the other

abbrev pub fault_of : Result Program (Fault Kind) → Option LineFault
fault_of (Ok p) = None
fault_of (Err (At kind n)) = Some (record { line = n; kind = kind })
fault_of (Err Memory) = None

-- the first fault of these lines
abbrev pub first_fault : List (List ℕ) → Option LineFault
first_fault lines = fault_of (meaning_of_lines source_grammar lines)

-- whether the first fault of these lines is that of line n
abbrev pub is_faulty : List (List ℕ) → ℕ → Bool
is_faulty lines n = where_some (first_fault lines) false (λ fault. fault.line == n)

-- line n, or an empty one where there are fewer
abbrev pub line_at : List (List ℕ) → ℕ → List ℕ
line_at lines n = unwrap_or (slice_get lines (n - 1)) []

-- the lines with this one in place of line n
abbrev pub with_line : List (List ℕ) → ℕ → List ℕ → List (List ℕ)
with_line lines n line = set lines (n - 1) line

-- the lines with this one in place of line n, where that is faulty
abbrev pub or_line : List (List ℕ) → ℕ → List ℕ → List (List ℕ)
or_line lines n line = if is_faulty lines n then with_line lines n line else lines

-- the second word of a line, where it has the form of a name
abbrev pub named_by : List Word → List ℕ
named_by words =
    where_some (slice_get words 1) [] (λ word. if has_name_form word then word else [])

-- whether a line begins as one of a matrix does
abbrev pub begins_matrix : List Word → Bool
begins_matrix words =
    (word_is words 0 (codes "thread") || word_is words 0 (codes "setup"))
    && not (length (named_by words) == 0)

-- the line of an operation without arguments, whose name ends so
abbrev pub unnamed : Word → List ℕ
unnamed name = codes "op unnamed_" ++ name ++ codes "() {"

-- what a line that opens a block may have meant outside of operations: an operation of a name that
-- no other line has
abbrev pub meant_outside : List ℕ → List ℕ
meant_outside line =
    let words = source_words line in if opens words then unnamed (named_by words) else []

-- the lines with the faulty one as it may have been meant, in an operation or else outside of them;
-- or with an empty one in its place, where that is faulty too
abbrev pub mended_line : List (List ℕ) → LineFault → List (List ℕ)
mended_line lines fault =
    let line = line_at lines fault.line in
    let first = with_line lines fault.line (meant_line fault.kind line) in
    or_line (or_line first fault.line (meant_outside line)) fault.line []

-- whether a line leaves its block, and ends no loop
abbrev pub leaves : List Word → Bool
leaves words = word_is words 0 (codes "return") || word_is words 0 (codes "continue")

abbrev pub has_no_words : List Word → Bool
has_no_words words = length words == 0

-- the last of the first lines, this many, that has words, where it leaves its block; else 0
abbrev pub leaving_line : List (List ℕ) → ℕ → ℕ
leaving_line lines zero = 0
leaving_line lines (suc n) =
    let words = source_words (line_at lines (suc n)) in
    if has_no_words words then leaving_line lines n else (if leaves words then suc n else 0)

abbrev pub is_flow : Kind → Bool
is_flow Flow = true
is_flow _ = false

-- the line that leaves the block before the faulty one, where that is why it is at fault; else 0
abbrev pub left_at : List (List ℕ) → LineFault → ℕ
left_at lines fault = if is_flow fault.kind then leaving_line lines (fault.line - 1) else 0

-- the lines without the one that leaves the block before line n, and without that where it still is
-- at fault
abbrev pub reached : List (List ℕ) → ℕ → ℕ → List (List ℕ)
reached lines leaving n = or_line (with_line lines leaving []) n []

-- The lines as they may have been meant: without the one that leaves the block before the faulty
-- one, if there is such a line, and else with another line in place of the faulty one.
abbrev pub mended : List (List ℕ) → LineFault → List (List ℕ)
mended lines fault =
    if left_at lines fault == 0 then mended_line lines fault
    else reached lines (left_at lines fault) fault.line

-- whether a line declares something, and is not the one that names the object
abbrev pub is_declaration : List Word → Bool
is_declaration words =
    word_is words 0 (codes "const") || (word_is words 0 (codes "word")
    || (word_is words 0 (codes "lock") || (word_is words 0 (codes "local")
    || word_is words 0 (codes "op"))))

-- Whether nothing after a line with this fault can be read on: it closes an operation that passes
-- a limit, or declares something before the object is named, or is nearly what separates parts, or
-- is one of a matrix.
abbrev pub ends_all : Kind → List Word → Bool
ends_all Limit words = word_is words 0 (codes "}")
ends_all Form words = is_dashes words || begins_matrix words
ends_all Missing words = is_declaration words
ends_all _ words = false

abbrev pub is_form : Kind → Bool
is_form Form = true
is_form _ = false

-- whether a fault is that line n has no form of a source
abbrev pub formless_at : ℕ → Option LineFault → Bool
formless_at n fault = where_some fault false (λ f. f.line == n && is_form f.kind)

-- whether the first fault of these lines is that
abbrev pub is_formless : List (List ℕ) → ℕ → Bool
is_formless lines n = formless_at n (first_fault lines)

-- whether line n has no form of a source where an operation without arguments is put in its place
abbrev pub refuses_operation : List (List ℕ) → ℕ → Bool
refuses_operation lines n = is_formless (with_line lines n (codes "op unnamed() {")) n

-- whether line n, which has these words, begins an operation in another one: no line of the form of
-- one is allowed there
abbrev pub is_inner_operation : List (List ℕ) → ℕ → List Word → Bool
is_inner_operation lines n words = word_is words 0 (codes "op") && refuses_operation lines n

-- whether a fault is that of a block that cannot be reached, whatever is meant
abbrev pub is_unreachable_block : List (List ℕ) → LineFault → List Word → Bool
is_unreachable_block lines fault words =
    is_flow fault.kind && (opens words && left_at lines fault == 0)

-- whether nothing after the fault is reported: it is at the end of the text, or such a one, or that
-- of a block that cannot be reached, or that of an operation in another one
abbrev pub is_last : List (List ℕ) → LineFault → Bool
is_last lines fault =
    let words = source_words (line_at lines fault.line) in
    nat_lt (length lines) fault.line
    || (ends_all fault.kind words
    || (is_unreachable_block lines fault words || is_inner_operation lines fault.line words))

abbrev pub message : LineFault → SourceMessage
message fault = record { line = fault.line; what = AFault fault.kind }

-- the faults of these lines, at most this many: the first one, and then those that are left
unfoldable pub faults_of_lines : ℕ → List (List ℕ) → List SourceMessage
faults_of_lines zero lines = []
faults_of_lines (suc most) lines = where_some (first_fault lines) [] (λ fault.
    message fault ∷ (if is_last lines fault then [] else faults_of_lines most (mended lines fault)))

-- the faults of a text, at most 20
abbrev pub faults_in : List ℕ → List SourceMessage
faults_in text = faults_of_lines 20 (lines_of text)

-- No fault is reported of what is read; else the first that is reported is the first there is.
abbrev pub AgreeOn : Result Program (Fault Kind) → List SourceMessage → Type 0
AgreeOn (Ok p) faults = faults ≡ []
AgreeOn (Err (At kind n)) faults =
    (others : List SourceMessage) × (faults ≡ message (record { line = n; kind = kind }) ∷ others)
AgreeOn (Err Memory) faults = faults ≡ []

-- ---- lines in memory

abbrev pub bytes_of : {Z : Type 0} → List (Vec ℕ Z) → List (List ℕ)
bytes_of lines = map (λ line. line.items) lines

abbrev pub inner_at : {Z : Type 0} → List (Vec ℕ Z) → ℕ → List (Bor Word) → Bool
inner_at lines n words = is_inner_operation (bytes_of lines) n (texts words)

abbrev pub unreachable_at : {Z : Type 0} → List (Vec ℕ Z) → LineFault → List (Bor Word) → Bool
unreachable_at lines fault words = is_unreachable_block (bytes_of lines) fault (texts words)
