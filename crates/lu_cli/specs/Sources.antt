-- What is answered to a bundle that may begin with a source.
use Rattle.std.specs.Prelude.{◌≡◌, ◌⊎◌, ℕ, List, [], ◌∷◌, Result, Ok, Err, if◌then◌else◌}
use Rattle.lu_text.specs.declared.fault.Fault.{Fault}
use Rattle.lu_text.specs.Bundle.{bundle_parts}
use Rattle.lu_text.specs.Faults.{IsUnlessMemory}
use Rattle.lu_component.specs.Component.{Component}
use Rattle.lu_source_text.specs.declared.fault.SourceFaultKind.{SourceFaultKind}
use Rattle.lu_source_text.specs.Begins.{is_source}
use Rattle.lu_source_text.specs.Kinds.{code_of}
use Rattle.lu_source_text.specs.Readers.{component_meant}
use Rattle.lu_cli.specs.declared.refusal.Refusal.{Refusal}
use Rattle.lu_cli.specs.declared.refusal.Refusal.TheVariants.{Memory, Source}
use Rattle.lu_cli.specs.declared.request.BundleCommand.{BundleCommand}
use Rattle.lu_cli.specs.Commands.{IsAnswerToCommand}
use Rattle.lu_cli.specs.Lint.{bundle_of}
use Rattle.lu_cli.specs.Outcomes.{Answer}
use Rattle.lu_cli.specs.Reading.{ToValue}

-- the component of a source with these parts after it, or the source's first fault
abbrev pub in_place : List (List ℕ) → Result Component (Fault SourceFaultKind)
    → Result (List ℕ) (Fault SourceFaultKind)
in_place parts (Ok c) = Ok (bundle_of c parts)
in_place parts (Err fault) = Err fault

abbrev pub meant_by : List ℕ → List (List ℕ) → Result (List ℕ) (Fault SourceFaultKind)
meant_by bundle [] = Ok bundle
meant_by bundle (first ∷ parts) =
    if is_source first then in_place parts (component_meant first) else Ok bundle

-- the bundle, where it begins with a source with the source's component in its place
abbrev pub bundle_meant : List ℕ → Result (List ℕ) (Fault SourceFaultKind)
bundle_meant bundle = meant_by bundle (bundle_parts bundle)

-- the answer to the bundle with the component in the source's place, or the refusal of the source
abbrev pub IsAnswerWithSource : BundleCommand → List ℕ → Answer → Type 0
IsAnswerWithSource command bundle =
    ToValue code_of (bundle_meant bundle) (λ meant. IsAnswerToCommand command (bundle_parts meant))

-- why there is no such bundle: the source is refused, or memory ran out
abbrev pub IsRefusalOfSource : Result (List ℕ) (Fault SourceFaultKind) → Refusal → Type 0
IsRefusalOfSource meant refused =
    (refused ≡ Memory)
    ⊎ ((fault : Fault SourceFaultKind) × IsUnlessMemory fault meant × (refused ≡ Source fault))
