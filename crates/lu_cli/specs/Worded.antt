-- What is shown of a component or of a source, and in which words.
use Rattle.std.specs.Prelude.{◌≡◌, ◌⊎◌, ℕ, true, false, List, MatchBool, Ok}
use Rattle.lu_text.specs.declared.fault.Fault.{Fault}
use Rattle.lu_text.specs.Faults.{IsUnlessMemory}
use Rattle.lu_text.specs.Lines.{lines_of, texts}
use Rattle.lu_component.specs.Component.{Component as AComponent}
use Rattle.lu_lang.specs.Labels.{labels_of}
use Rattle.lu_source_text.specs.declared.fault.SourceFaultKind.{SourceFaultKind}
use Rattle.lu_source_text.specs.Begins.{is_source}
use Rattle.lu_source_text.specs.Origins.{AreOrigins}
use Rattle.lu_source_text.specs.Readers.{component_meant}
use Rattle.lu_trace.specs.declared.wording.Wording.{Wording}
use Rattle.lu_trace.specs.declared.wording.Wording.TheVariants.{Component, Labelled, Source}
use Rattle.lu_cli.specs.declared.refusal.Refusal.{Refusal}
use Rattle.lu_cli.specs.declared.refusal.Refusal.TheVariants as refusal
use Rattle.lu_cli.specs.declared.refusal.Refusal.TheVariants.{Memory, Texts}
use Rattle.lu_cli.specs.declared.texts.Fault.{Fault as TextsFault}
use Rattle.lu_cli.specs.declared.worded.SourceWords.{SourceWords}
use Rattle.lu_cli.specs.declared.worded.Words.{Words}
use Rattle.lu_cli.specs.declared.worded.Words.TheVariants as worded_by
use Rattle.lu_cli.specs.declared.worded.Worded.{Worded}
use Rattle.lu_cli.specs.Texts.{AreSettled, IsFaultOfMatrix, IsFaultOfTexts, IsSettledMatrix}

-- A component is shown in its own words, with the labels of its text, and one that was compiled
-- from a source by the source's lines, and where its instructions come from in them.
abbrev pub IsWordingOf : List ℕ → Wording → Type 0
IsWordingOf text Component = ⊥
IsWordingOf text (Labelled labels) = (is_source text ≡ false) × (labels.now ≡ labels_of text)
IsWordingOf text (Source lines origins) =
    (is_source text ≡ true) × (texts lines.now ≡ lines_of text)
    × AreOrigins (lines_of text) origins.now

-- ---- in memory

-- why a source is refused
abbrev pub IsSourceRefusal : List ℕ → Refusal → Type 0
IsSourceRefusal text refused =
    (fault : Fault SourceFaultKind) × IsUnlessMemory fault (component_meant text)
    × (refused ≡ refusal.Source fault)

-- the source's lines, and where the instructions come from
abbrev pub AreWordsOf : List ℕ → SourceWords → Type 0
AreWordsOf text words =
    (texts words.lines.items ≡ lines_of text) × AreOrigins (lines_of text) words.origins

-- the words in which it is shown
abbrev pub IsWordedBy : Words → Wording → Type 0
IsWordedBy (worded_by.Labels labels) Component = ⊥
IsWordedBy (worded_by.Labels labels) (Labelled shown) = shown.now ≡ labels
IsWordedBy (worded_by.Labels labels) (Source lines origins) = ⊥
IsWordedBy (worded_by.Source source) Component = ⊥
IsWordedBy (worded_by.Source source) (Labelled shown) = ⊥
IsWordedBy (worded_by.Source source) (Source lines origins) =
    (lines.now ≡ source.lines.items) × (origins.now ≡ source.origins)

-- a component's labels, and a source's words
abbrev pub AreTextWords : List ℕ → Words → Type 0
AreTextWords text (worded_by.Labels labels) = (is_source text ≡ false) × (labels ≡ labels_of text)
AreTextWords text (worded_by.Source source) = (is_source text ≡ true) × AreWordsOf text source

-- why a source has none: the refusal of the source, or memory ran out
abbrev pub IsWordsRefusal : List ℕ → Refusal → Type 0
IsWordsRefusal text refused = (refused ≡ Memory) ⊎ IsSourceRefusal text refused

-- the component of the source, and the matrix, whose setup settles
abbrev pub IsWordedOfSource : List ℕ → List ℕ → Worded → Type 0
IsWordedOfSource source matrix worded =
    (of : SourceWords) × (worded.words ≡ worded_by.Source of) × AreWordsOf source of
    × (component_meant source ≡ Ok worded.component)
    × IsSettledMatrix worded.component matrix worded.matrix

-- the component that the text spells, or that of the source that it spells
abbrev pub IsComponentOf : List ℕ → List ℕ → Worded → Type 0
IsComponentOf text matrix worded =
    MatchBool (is_source text) ((component_meant text ≡ Ok worded.component)
    × IsSettledMatrix worded.component matrix worded.matrix)
    (AreSettled text matrix worded.component worded.matrix)

-- and the words in which it is shown
abbrev pub IsWordedOf : List ℕ → List ℕ → Worded → Type 0
IsWordedOf text matrix worded = IsComponentOf text matrix worded × AreTextWords text worded.words

-- the refusal of the source, or of the matrix of its component
abbrev pub IsWordedRefusalOfSource : List ℕ → List ℕ → Refusal → Type 0
IsWordedRefusalOfSource source matrix refused =
    (refused ≡ Memory) ⊎ (IsSourceRefusal source refused
    ⊎ ((c : AComponent) × (fault : TextsFault) × (component_meant source ≡ Ok c)
    × IsFaultOfMatrix c matrix fault × (refused ≡ Texts fault)))

-- the refusal of the texts of a component and a matrix
abbrev pub IsTextsRefusal : List ℕ → List ℕ → Refusal → Type 0
IsTextsRefusal text matrix refused =
    (refused ≡ Memory)
    ⊎ ((fault : TextsFault) × IsFaultOfTexts text matrix fault × (refused ≡ Texts fault))

abbrev pub IsWordedRefusal : List ℕ → List ℕ → Refusal → Type 0
IsWordedRefusal text matrix refused =
    (refused ≡ Memory) ⊎ MatchBool (is_source text) (IsWordedRefusalOfSource text matrix refused)
    (IsTextsRefusal text matrix refused)
