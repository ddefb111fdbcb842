-- A line is read as its writer meant it: a declaration with a fault was to declare a name, and the
-- lines after it may use that name.
use Rattle.std.specs.Prelude.{ℕ, ◌+◌, Bool, true, false, List, [], ◌∷◌, ◌++◌, length, take, drop, Option, Some, None, is_some, option_and_then, slice_get, Result, Ok, Err, codes, ◌==◌, ◌&&◌, ◌||◌, not, nat_le, if◌then◌else◌}
use Rattle.std.specs.List.{flat_map, list_all, list_any}
use Rattle.std.specs.Str.{bytes_eq}
use Rattle.std.specs.Option.{unwrap_or, option_map}
use Rattle.lu_text.specs.Faults.{Grammar}
use Rattle.lu_text.specs.Lines.{words_of, is_allowed}
use Rattle.lu_text.specs.Words.{Word}
use Rattle.lu_component.specs.Component.{Component}
use Rattle.lu_lang.specs.declared.fault.LangFaultKind.{LangFaultKind}
use Rattle.lu_lang.specs.declared.keyword.Keyword.{Keyword}
use Rattle.lu_lang.specs.declared.keyword.Keyword.TheVariants as keyword
use Rattle.lu_lang.specs.declared.draft.Label.{Label as ALabel}
use Rattle.lu_lang.specs.declared.recovery.Family.{Family}
use Rattle.lu_lang.specs.declared.recovery.Family.TheVariants.{Array, Lock, Label, Operation}
use Rattle.lu_lang.specs.Draft.{OpenOp, ComponentDraft, nothing}
use Rattle.lu_lang.specs.Words.{keyword_in}
use Rattle.lu_lang.specs.Grammar.{found_array, found_lock, find_label, label_in, line_of, component_grammar}
use Rattle.lu_lang.specs.Faulty.{MeantName, FaultyDraft}
use Rattle.lu_lang.specs.Mend.{after_label, bare, line_label, mend}

-- ---- names

abbrev pub same_family : Family → Family → Bool
same_family Array Array = true
same_family Lock Lock = true
same_family (Label n) (Label m) = n == m
same_family Operation Operation = true
same_family _ _ = false

-- a faulty declaration was to declare this name in this family
abbrev pub is_meant : List MeantName → Family → Word → Bool
is_meant meant family word =
    list_any (λ m. same_family m.family family && bytes_eq m.word word) meant

-- the labels of the open operation, where one is
abbrev pub open_labels : Option OpenOp → List ALabel
open_labels None = []
open_labels (Some b) = b.labels

abbrev pub is_declared : ComponentDraft → Family → Word → Bool
is_declared d Array word = is_some (found_array d word)
is_declared d Lock word = is_some (found_lock d word)
is_declared d (Label n) word = is_some (find_label (open_labels d.begun) word)
is_declared d Operation word = false

-- the first declared name of a family
abbrev pub first_of : ComponentDraft → Family → Option Word
first_of d Array = option_map (λ a. a.name) (slice_get d.arrays 0)
first_of d Lock = slice_get d.locks 0
first_of d (Label n) = option_map (λ l. l.name) (slice_get (open_labels d.begun) 0)
first_of d Operation = None

-- ---- a line as it was meant

-- What an instruction names, and which of its line's words is the name, where it stands after so
-- many words in operation n.
abbrev pub named_by : ℕ → ℕ → Keyword → Option (Family × ℕ)
named_by n before keyword.Load = Some (Array, before + 2)
named_by n before keyword.Cas = Some (Array, before + 2)
named_by n before keyword.Store = Some (Array, before + 1)
named_by n before keyword.Await = Some (Array, before + 1)
named_by n before keyword.AwaitNot = Some (Array, before + 1)
named_by n before keyword.Lock = Some (Lock, before + 1)
named_by n before keyword.Unlock = Some (Lock, before + 1)
named_by n before keyword.Jump = Some (Label n, before + 1)
named_by n before keyword.JumpIfZero = Some (Label n, before + 2)
named_by n before _ = None

abbrev pub name_of_code : ℕ → ℕ → List Word → Option (Family × ℕ)
name_of_code n before [] = None
name_of_code n before (word ∷ words) = option_and_then (named_by n before) (keyword_in word)

-- the same for a line of operation n, with a label or without one
abbrev pub name_of_line : ℕ → List Word → Option (Family × ℕ)
name_of_line n [] = None
name_of_line n (word ∷ words) =
    if is_some (label_in word) then name_of_code n 1 words else name_of_code n 0 (word ∷ words)

-- each with a space after it
abbrev pub spaced : List Word → List ℕ
spaced words = flat_map (λ word. word ++ codes " ") words

-- the line of these words, with another for the one at this position
abbrev pub line_with : List Word → ℕ → Word → List ℕ
line_with words position other =
    spaced (take position words) ++ (other ++ codes " ") ++ spaced (drop (position + 1) words)

-- with a declared name for the one at this position, where that was only meant
abbrev pub renamed_at : FaultyDraft → List Word → Family × ℕ → Option (List ℕ)
renamed_at f words (family, position) =
    if unwrap_or (option_map (is_meant f.meant family) (slice_get words position)) false
    then option_map (line_with words position) (first_of f.draft family)
    else None

abbrev pub renamed : FaultyDraft → List Word → Option (List ℕ)
renamed f words =
    if is_some f.draft.begun
    then option_and_then (renamed_at f words) (name_of_line (length f.draft.operations) words)
    else None

-- the line as it was meant, where it uses a name that was only meant
abbrev pub meant_line : FaultyDraft → List ℕ → Option (List ℕ)
meant_line f line = if list_all is_allowed line then renamed f (words_of line) else None

abbrev pub read_as : FaultyDraft → List ℕ → List ℕ
read_as f line = unwrap_or (meant_line f line) line

-- with the next draft
abbrev pub with_draft : FaultyDraft → Result ComponentDraft LangFaultKind
    → Result FaultyDraft LangFaultKind
with_draft f (Ok next) = Ok (record f { draft = next })
with_draft f (Err kind) = Err kind

-- the text of a component, each line as it was meant
abbrev pub faulty_grammar : Grammar LangFaultKind FaultyDraft Component
faulty_grammar = record {
  nothing = record { draft = nothing; meant = [] };
  line = λ f line. with_draft f (line_of f.draft (read_as f line));
  finish = λ f. component_grammar.finish f.draft;
}

-- ---- what a line with a fault was to declare, where d is the draft that it leaves

-- this name, where it is not declared and there is room: at most 256 names are kept
abbrev pub with_name : ComponentDraft → List MeantName → Family → Word → List MeantName
with_name d meant family word =
    if is_declared d family word || nat_le 256 (length meant) then meant
    else meant ++ record { family = family; word = word } ∷ []

-- `word` declares an array, and outside operations `lock` a lock
abbrev pub declared_by : ComponentDraft → Word → Option Family
declared_by d first =
    if bytes_eq first (codes "word") then Some Array
    else (if bytes_eq first (codes "lock") && not (is_some d.begun) then Some Lock else None)

abbrev pub with_declared : ComponentDraft → List MeantName → Option Family → Word → List MeantName
with_declared d meant None name = meant
with_declared d meant (Some family) name = with_name d meant family name

-- a line of these words, after its label
abbrev pub with_after : ComponentDraft → List MeantName → List Word → List MeantName
with_after d meant [] = meant
with_after d meant (first ∷ []) = meant
with_after d meant (first ∷ name ∷ words) =
    with_declared d meant (declared_by d (bare first)) (bare name)

-- a label of the open operation, where there is one
abbrev pub with_label_name : ComponentDraft → List MeantName → Option Word → List MeantName
with_label_name d meant None = meant
with_label_name d meant (Some label) =
    if is_some d.begun then with_name d meant (Label (length d.operations)) label else meant

abbrev pub with_names : ComponentDraft → List MeantName → List Word → List MeantName
with_names d meant words =
    with_after d (with_label_name d meant (line_label words)) (after_label words)

-- how many operations are begun, the open one too
abbrev pub operations_begun : ComponentDraft → ℕ
operations_begun d =
    if is_some d.begun then length d.operations + 1 else length d.operations

-- The open operation, where it is more than this many, which were begun before the line: how many
-- arguments it takes is not known, though its name is declared.
abbrev pub with_operation : ComponentDraft → List MeantName → Option OpenOp → ℕ → List MeantName
with_operation d meant None before = meant
with_operation d meant (Some b) before =
    if operations_begun d == before then meant else with_name d meant Operation b.name

-- what a line with a fault leaves, before these lines
abbrev pub mend_faulty : FaultyDraft → List ℕ → List (List ℕ) → FaultyDraft
mend_faulty f line lines =
    let next = mend f.draft line lines in
    let meant = with_names next f.meant (words_of line) in
    record {
      draft = next;
      meant = with_operation next meant next.begun (operations_begun f.draft);
    }
