-- What `compile` answers.
use Rattle.std.specs.Prelude.{◌≡◌, ℕ, List, All, Option, Some, None, Vec, codes, ◌++◌, ◌⊎◌, [], ◌∷◌}
use Rattle.lu_component.specs.Component.{Component}
use Rattle.std.specs.List.{flat_map}
use Rattle.lu_source_text.specs.Kinds.{code_of as source_code_of}
use Rattle.lu_source_text.specs.Readers.{component_meant}
use denote.Ref.{Bor}
use Rattle.lu_text.specs.Lines.{texts}
use Rattle.std.specs.Str.{IsUtf8}
use Rattle.lu_lang.specs.ComponentText.{component_text}
use Rattle.lu_cli.specs.Outcomes.{Answer, refused}
use Rattle.lu_cli.specs.Reading.{ToValue}

-- the same texts as strings; none where one is no UTF-8
abbrev pub AreStrings : {Z : Type 0} → List (List ℕ) → Option (Vec (Bor (List ℕ)) Z) → Type 0
AreStrings words None = All IsUtf8 words → ⊥
AreStrings words (Some strings) = texts strings.items ≡ words

-- a part, with the line before it
abbrev pub part_text : List ℕ → List ℕ
part_text part = codes "---\n" ++ part

-- these parts, each with the line before it
abbrev pub parts_text : List (List ℕ) → List ℕ
parts_text parts = flat_map part_text parts

abbrev pub lent_after : List (Bor (List ℕ)) → List ℕ
lent_after parts = flat_map (λ part. part_text part.now) parts

-- the text of the component, and these parts after it as they are
abbrev pub compiled_bundle : Component → List (List ℕ) → Answer
compiled_bundle c parts = record { text = component_text c ++ parts_text parts; status = 0 }

-- that, or that a part is no UTF-8
abbrev pub IsCompiledBundle : Component → List (List ℕ) → Answer → Type 0
IsCompiledBundle c parts answer =
    (answer ≡ compiled_bundle c parts)
    ⊎ ((All IsUtf8 parts → ⊥) × (answer ≡ refused (codes "B3")))

-- the source is compiled, and the other parts stay as they are
abbrev pub IsCompiledWith : List ℕ → List (List ℕ) → Answer → Type 0
IsCompiledWith source parts =
    ToValue source_code_of (component_meant source) (λ c. IsCompiledBundle c parts)

abbrev pub IsAnswerToCompile : List (List ℕ) → Answer → Type 0
IsAnswerToCompile [] answer = answer ≡ refused (codes "B1")
IsAnswerToCompile (source ∷ parts) answer = IsCompiledWith source parts answer
