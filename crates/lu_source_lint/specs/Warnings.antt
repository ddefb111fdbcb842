-- What is odd in a source without faults, by the words of its lines.
use Rattle.std.specs.Prelude.{ℕ, ◌+◌, ◌-◌, ◌==◌, nat_lt, Bool, false, not, ◌&&◌, ◌||◌, List, [], ◌∷◌, ◌++◌, filter, length, map, drop, Option, Some, None, Vec, codes, if◌then◌else◌}
use Rattle.std.specs.Int.{from_bool}
use Rattle.std.specs.List.{list_any, position, slice_get, take_while}
use Rattle.std.specs.Option.{unwrap_or}
use denote.Ref.{Bor}
use Rattle.lu_text.specs.Lines.{lines_of, texts}
use Rattle.lu_text.specs.Words.{Word}
use Rattle.lu_source_text.specs.Grammar.{is_among, is_word, source_words, where_some}
use Rattle.lu_source_lint.specs.declared.message.SourceMessage.{SourceMessage}
use Rattle.lu_source_lint.specs.declared.message.Warning.{Warning}
use Rattle.lu_source_lint.specs.declared.message.Warning.TheVariants.{UnusedLocal, UnusedWord, EndlessLoop, SpinningLoop, AwaitedCondition, PlainUpdate}
use Rattle.lu_source_lint.specs.declared.message.What.TheVariants.{Warning as AWarning}
use Rattle.lu_source_lint.specs.declared.warnings.Sought.{Sought}
use Rattle.lu_source_lint.specs.declared.warnings.Sought.TheVariants.{Acts, Changes}
use Rattle.lu_source_lint.specs.Faults.{is_whole_block, opens, word_is}

-- a line, by its words
abbrev pub Line : Type 0
Line = List Word

-- the name that a line declares, which is its second word
abbrev pub name_of : Line → Word
name_of words = unwrap_or (slice_get words 1) []

-- Whether a line names it after its first word. (The first word of an assignment is not read.)
abbrev pub reads : Word → Line → Bool
reads name words = is_among (drop 1 words) name

-- ---- names that nothing reads

-- whether one of these lines, up to the next operation, reads it
abbrev pub is_read : Word → List Line → Bool
is_read name lines =
    list_any (reads name) (take_while (λ words. not (word_is words 0 (codes "op"))) lines)

-- whether no line above or below reads it
abbrev pub is_unused : Word → List Line → List Line → Bool
is_unused name above below = not (list_any (reads name) (above ++ below))

-- ---- loops

-- the names of the shared words that these lines declare
abbrev pub shared_names : List Line → List Word
shared_names lines = map name_of (filter (λ words. word_is words 0 (codes "word")) lines)

-- what leaves a loop, or is seen by others
abbrev pub acting : List Word
acting = codes "lock" ∷ codes "unlock" ∷ codes "break" ∷ codes "return" ∷ []

-- whether a word does so, or is a shared word
abbrev pub word_acts : List Word → Word → Bool
word_acts shared word = is_among acting word || is_among shared word

abbrev pub acts : List Word → Line → Bool
acts shared words = list_any (word_acts shared) words

-- how many blocks are open after a line
abbrev pub depth_after : ℕ → Line → ℕ
depth_after depth words =
    (depth - from_bool (word_is words 0 (codes "}"))) + from_bool (opens words)

-- what changes the thread's own values or a shared word, or waits
abbrev pub changing : List Word
changing =
    codes "=" ∷ codes "+=" ∷ codes "-=" ∷ codes "lock" ∷ codes "unlock" ∷ codes "await" ∷ []

abbrev pub word_changes : Word → Bool
word_changes word = is_among changing word

abbrev pub changes : Line → Bool
changes words = list_any word_changes words

-- what changes a shared word where a line begins with it
abbrev pub calling : List Word
calling =
    codes "cas" ∷ codes "compare_exchange" ∷ codes "swap" ∷ codes "fetch_add" ∷ codes "fetch_sub"
    ∷ codes "fetch_max" ∷ codes "fetch_min" ∷ []

abbrev pub begins_call : Line → Bool
begins_call [] = false
begins_call (word ∷ words) = is_among calling word

-- whether a line does what is sought
abbrev pub does : List Word → Sought → Line → Bool
does shared Acts words = acts shared words
does shared Changes words = changes words || begins_call words

-- whether a line does what is sought, or is in more blocks than there may be
abbrev pub stops : List Word → Sought → ℕ → Line → Bool
stops shared sought depth words = nat_lt 16 depth || does shared sought words

-- Whether a loop comes to its `}` with no line that does what is sought. This many blocks are open,
-- the loop with them; there are 16 at most.
abbrev pub ends_without : List Word → Sought → ℕ → List Line → Bool
ends_without shared sought depth [] = false
ends_without shared sought depth (words ∷ lines) =
    not (stops shared sought depth words)
    && (depth_after depth words == 0
    || ends_without shared sought (depth_after depth words) lines)

-- whether one of the words is a shared word
abbrev pub names_shared : List Word → Line → Bool
names_shared shared words = list_any (is_among shared) words

-- whether one of the words of the first of these lines is one
abbrev pub first_names_shared : List Word → List Line → Bool
first_names_shared shared lines = where_some (slice_get lines 0) false (names_shared shared)

-- whether a loop tests a shared word: a `while` in its condition, a `loop` in its first line
abbrev pub tests_shared : List Word → Line → List Line → Bool
tests_shared shared words below =
    (word_is words 0 (codes "while") && names_shared shared words)
    || (word_is words 0 (codes "loop") && first_names_shared shared below)

abbrev pub is_brace : Word → Bool
is_brace word = is_word word (codes "{")

-- where the first `{` is
abbrev pub brace : Line → ℕ
brace words = unwrap_or (position is_brace words) (length words)

-- the words from there on
abbrev pub from_brace : Line → Line
from_brace words = drop (brace words) words

-- whether a line begins a loop that is whole on this line, tests a shared word, and changes nothing
abbrev pub spins_here : List Word → Line → Bool
spins_here shared words =
    (word_is words 0 (codes "while") || word_is words 0 (codes "loop"))
    && (names_shared shared words && not (does shared Changes (drop 1 (from_brace words))))

-- Whether a line begins a loop that can only end when another thread changes a shared word: it tests
-- one, and none of its lines assigns, locks, waits, or begins with a call that changes a word.
abbrev pub spins : List Word → Line → List Line → Bool
spins shared words below =
    if is_whole_block words then spins_here shared words
    else tests_shared shared words below && ends_without shared Changes 1 below

-- whether a line begins a `loop` that never ends, and that others see nothing of
abbrev pub is_endless : List Word → Line → List Line → Bool
is_endless shared words below =
    word_is words 0 (codes "loop")
    && (if is_whole_block words then not (acts shared words)
    else ends_without shared Acts 1 below)

-- ---- updates

-- whether a line calls something that changes this word
abbrev pub calls_on : Word → Line → Bool
calls_on name words = list_any (is_among calling) words && is_among words name

-- the word that a line begins with
abbrev pub first_of : Line → Word
first_of words = unwrap_or (slice_get words 0) []

-- whether a line changes a shared word by `+=` or `-=`, and another one by such a call
abbrev pub is_plain_update : List Word → List Line → Line → List Line → Bool
is_plain_update shared above words below =
    is_among shared (first_of words)
    && ((is_among words (codes "+=") || is_among words (codes "-="))
    && list_any (calls_on (first_of words)) (above ++ below))

-- ---- what is awaited

abbrev pub compares : Word → Bool
compares word = is_among (codes "==" ∷ codes "!=" ∷ []) word

abbrev pub joins : Word → Bool
joins word = is_among (codes "&&" ∷ codes "||" ∷ []) word

abbrev pub has_joint : Line → Bool
has_joint words = list_any joins words

-- where the first `==` or `!=` is
abbrev pub comparison : Line → ℕ
comparison words = unwrap_or (position compares words) (length words)

-- the words from there on
abbrev pub from_comparison : Line → Line
from_comparison words = drop (comparison words) words

-- whether a line waits for the value of a condition that has no parentheses around it
abbrev pub awaits_condition : Line → Bool
awaits_condition words =
    word_is words 0 (codes "await")
    && (not (word_is (from_comparison words) 1 (codes "("))
    && has_joint (from_comparison words))

-- ---- warnings

-- what is odd about a line, between those above it and those below it
unfoldable pub warning_of : List Word → List Line → Line → List Line → Option Warning
warning_of shared above words below =
    if word_is words 0 (codes "let") && not (is_read (name_of words) below)
    then Some UnusedLocal
    else (if word_is words 0 (codes "word") && is_unused (name_of words) above below
    then Some UnusedWord
    else (if is_endless shared words below then Some EndlessLoop
    else (if spins shared words below then Some SpinningLoop
    else (if awaits_condition words then Some AwaitedCondition
    else (if is_plain_update shared above words below then Some PlainUpdate
    else None)))))

-- what is said of line n
abbrev pub said_of : ℕ → Option Warning → List SourceMessage
said_of n None = []
said_of n (Some warning) = record { line = n; what = AWarning warning } ∷ []

-- what is said of the lines that follow on these
abbrev pub warnings_from : List Word → List Line → List Line → List SourceMessage
warnings_from shared above [] = []
warnings_from shared above (words ∷ below) =
    said_of (length above + 1) (warning_of shared above words below)
    ++ warnings_from shared (above ++ words ∷ []) below

-- what is said of a text
abbrev pub warnings_in : List ℕ → List SourceMessage
warnings_in text =
    let lines = map source_words (lines_of text) in warnings_from (shared_names lines) [] lines

-- ---- lines in memory

abbrev pub lines_in : {Z : Type 0} → List (Vec (Bor Word) Z) → List Line
lines_in lines = map (λ line. texts line.items) lines

abbrev pub warning_at : {Y Z : Type 0} → List (Bor Word) → List (Vec (Bor Word) Y) → List (Bor Word)
    → List (Vec (Bor Word) Z) → Option Warning
warning_at shared above words below =
    warning_of (texts shared) (lines_in above) (texts words) (lines_in below)

abbrev pub plain_update_at : {Y Z : Type 0} → List (Bor Word) → List (Vec (Bor Word) Y)
    → List (Bor Word) → List (Vec (Bor Word) Z) → Bool
plain_update_at shared above words below =
    is_plain_update (texts shared) (lines_in above) (texts words) (lines_in below)
