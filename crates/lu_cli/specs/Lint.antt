-- What `lint` answers.
use Rattle.std.specs.Prelude.{◌≡◌, ◌-◌, ℕ, nat_le, nat_lt, Bool, true, false, MatchBool, MatchResult, List, [], ◌∷◌, ◌++◌, length, Option, Some, None, if◌then◌else◌, Vec, codes, String, string_bytes}
use Rattle.std.specs.List.{filter, filter_map}
use Rattle.std.specs.List.Sorted.{IsNonDecreasingBy}
use Rattle.std.specs.Fmt.{decimal}
use Rattle.std.specs.Str.{bytes_eq}
use Rattle.lu_text.specs.Lines.{lines_of, words_of}
use Rattle.lu_text.specs.Words.{Word}
use Rattle.lu_component.specs.Component.{Component}
use Rattle.lu_lang.specs.ComponentText.{component_text}
use Rattle.lu_source_text.specs.Begins.{is_source}
use Rattle.lu_source_text.specs.Kinds.{code_of}
use Rattle.lu_source_text.specs.Readers.{component_meant}
use Rattle.lu_source_lint.specs.declared.message.SourceMessage.{SourceMessage}
use Rattle.lu_source_lint.specs.declared.message.What.{What}
use Rattle.lu_source_lint.specs.declared.message.What.TheVariants.{Fault, Warning}
use Rattle.lu_source_lint.specs.Faults.{faults_in}
use Rattle.lu_source_lint.specs.Warnings.{warnings_in}
use Rattle.lu_lint.specs.declared.remark.Remark.{Remark}
use Rattle.lu_lint.specs.Bundle.{IsSaidOf}
use Rattle.lu_lint.specs.Messages.{remarks_text}
use Rattle.lu_lint.specs.Said.{have_fault, line_below, said_of}
use Rattle.lu_lint.specs.declared.linting.LintOptions.{LintOptions}
use Rattle.lu_text.specs.Bundle.{bundle_parts}
use Rattle.lu_cli.specs.declared.request.LintRequest.{LintRequest}
use Rattle.lu_cli.specs.Compile.{parts_text}
use Rattle.lu_cli.specs.Outcomes.{Answer}

-- ---- of a component

-- what is said of the lines of a bundle, and whether one of it is a fault
abbrev pub remarked : List Remark → Answer
remarked remarks = record {
  text = remarks_text remarks;
  status = if have_fault remarks then 2 else 0;
}

-- how a bundle is linted that is asked for so
abbrev pub options_of : LintRequest → LintOptions
options_of asked = record { serial = asked.bounds.serial; marks = asked.marks }

-- a line with these words, where it has some, and whether the first is this one; or else that of
-- the lines below
abbrev pub line_or : List ℕ → ℕ → List Word → Option (ℕ × Bool) → Option (ℕ × Bool)
line_or word n [] below = below
line_or word n (first ∷ others) below = Some (n, bytes_eq first word)

-- the first of these lines that has words, counted on from `above`
abbrev pub first_line : List ℕ → ℕ → List (List ℕ) → Option (ℕ × Bool)
first_line word above [] = None
first_line word above (line ∷ lines) =
    line_or word (line_below above 1) (words_of line) (first_line word (line_below above 1) lines)

-- the line in which the first of these parts begins as recorded runs, where it does
abbrev pub where_runs : Option (ℕ × Bool) → Option ℕ
where_runs (Some (n, true)) = Some n
where_runs _ = None

abbrev pub line_of_runs : ℕ → List (List ℕ) → Option ℕ
line_of_runs above [] = None
line_of_runs above (matrix ∷ parts) =
    where_runs (first_line (codes "run") (line_below above 1) (lines_of matrix))

-- the line in which a part begins otherwise, or else this one
abbrev pub where_other : Option (ℕ × Bool) → Option ℕ → Option ℕ
where_other (Some (n, false)) line = Some n
where_other _ line = line

-- The last line of which something is said: that in which the first part begins as no component, or
-- the matrix as recorded runs. Below it everything would be judged as what it is not.
abbrev pub last_line : List (List ℕ) → Option ℕ
last_line [] = None
last_line (first ∷ parts) =
    where_other (first_line (codes "component") 0 (lines_of first))
    (line_of_runs (length (lines_of first)) parts)

abbrev pub remarks_upto : ℕ → List Remark → List Remark
remarks_upto last remarks = filter (λ r. nat_le r.said.line last) remarks

abbrev pub upto_last : Option ℕ → List Remark → List Remark
upto_last None remarks = remarks
upto_last (Some last) remarks = remarks_upto last remarks

-- what there is to say of a bundle, in the order of its lines
abbrev pub AreRemarksOn : LintRequest → List ℕ → List Remark → Type 0
AreRemarksOn asked bundle remarks =
    (all : List Remark) × IsSaidOf (options_of asked) bundle (said_of all)
    × IsNonDecreasingBy (λ r. r.said.line) all
    × (remarks ≡ upto_last (last_line (bundle_parts bundle)) all)

abbrev pub IsLinted : LintRequest → List ℕ → Answer → Type 0
IsLinted asked bundle answer =
    (remarks : List Remark) × AreRemarksOn asked bundle remarks × (answer ≡ remarked remarks)

-- ---- of a source

-- a warning says that it is one, and a fault has its code after it
abbrev pub marked : What → List ℕ → List ℕ
marked (Fault kind) words = words ++ codes " (" ++ code_of kind ++ codes ")"
marked (Warning warning) words = codes "warning: " ++ words

-- the line of a message, with its words
abbrev pub message_line : SourceMessage → List ℕ → List ℕ
message_line m words =
    codes "line " ++ decimal m.line ++ codes ": " ++ marked m.what words ++ codes "\n"

-- a line for each message, in some words
abbrev pub TellsEach : List SourceMessage → List ℕ → Type 0
TellsEach [] text = text ≡ []
TellsEach (m ∷ ms) text =
    (words : List ℕ) × (rest : List ℕ) × TellsEach ms rest × (text ≡ message_line m words ++ rest)

-- every fault of the source
abbrev pub IsFaulted : List ℕ → Answer → Type 0
IsFaulted source answer =
    (text : List ℕ) × TellsEach (faults_in source) text
    × (answer ≡ record { text = text; status = 2 })

-- what is said of a line after the first `above` of a bundle, where `now` lines stand in their
-- place
abbrev pub on_line : ℕ → Remark → Remark
on_line n r = record { said = record { line = n; cause = r.said.cause }; words = r.words }

abbrev pub moved : ℕ → ℕ → Remark → Option Remark
moved above now r =
    if nat_lt above r.said.line then Some (on_line (line_below now (r.said.line - above)) r)
    else None

abbrev pub remarks_below : ℕ → ℕ → List Remark → List Remark
remarks_below above now remarks = filter_map (moved above now) remarks

-- a component, with these parts after it
abbrev pub bundle_of : Component → List (List ℕ) → List ℕ
bundle_of c parts = component_text c ++ parts_text parts

-- What is odd in a source without faults, and what there is to say of the parts after it, where its
-- component stands in its place, on the lines that they have after the source.
abbrev pub below_source : List ℕ → Component → List Remark → List Remark
below_source source c remarks =
    remarks_below (length (lines_of (component_text c))) (length (lines_of source)) remarks

-- what there is to say of these parts after a source of this many lines with this component
abbrev pub AreRemarksAfter : {Z : Type 0} → LintRequest → Component → ℕ → List (List ℕ)
    → Vec Remark Z → Type 0
AreRemarksAfter asked c now parts remarks =
    (all : List Remark) × AreRemarksOn asked (bundle_of c parts) all
    × (remarks.items ≡ remarks_below (length (lines_of (component_text c))) now all)

-- remarks, with what is said of the source before them
abbrev pub remarked_after : List ℕ → List Remark → Answer
remarked_after said remarks =
    record { text = said ++ remarks_text remarks; status = (remarked remarks).status }

abbrev pub IsLintedAfter : LintRequest → List ℕ → List (List ℕ) → Component → Answer → Type 0
IsLintedAfter asked source parts c answer =
    (said : List ℕ) × (remarks : List Remark) × TellsEach (warnings_in source) said
    × AreRemarksOn asked (bundle_of c parts) remarks
    × (answer ≡ remarked_after said (below_source source c remarks))

abbrev pub IsSourceLinted : LintRequest → List ℕ → List (List ℕ) → Answer → Type 0
IsSourceLinted asked source parts answer =
    MatchResult (component_meant source) (λ c. IsLintedAfter asked source parts c answer)
    (λ fault. IsFaulted source answer)

-- of a bundle that begins with a source, and of another one
abbrev pub IsLintedBy : List (List ℕ) → LintRequest → List ℕ → Answer → Type 0
IsLintedBy [] asked bundle answer = IsLinted asked bundle answer
IsLintedBy (first ∷ parts) asked bundle answer =
    MatchBool (is_source first) (IsSourceLinted asked first parts answer)
    (IsLinted asked bundle answer)

abbrev pub IsLint : LintRequest → List ℕ → Answer → Type 0
IsLint asked bundle answer = IsLintedBy (bundle_parts bundle) asked bundle answer

-- ---- texts that grow

-- the text grows by a line for each message
abbrev pub AddsMessages : List SourceMessage → List ℕ → List ℕ → Type 0
AddsMessages messages old new = (said : List ℕ) × TellsEach messages said × (new ≡ old ++ said)

abbrev pub WritesMessages : {Z : Type 0} → List SourceMessage → String Z → String Z → Type 0
WritesMessages messages old new = AddsMessages messages (string_bytes old) (string_bytes new)

abbrev pub AddsMessage : SourceMessage → List ℕ → List ℕ → Type 0
AddsMessage m old new = (words : List ℕ) × (new ≡ old ++ message_line m words)
