-- What is read of a source.
use Rattle.std.specs.Prelude.{◌≡◌, ℕ, List, Result, Ok}
use Rattle.std.specs.Result.{result_map_both}
use Rattle.lu_component.specs.Component.{Component, IsComponent}
use Rattle.lu_text.specs.declared.fault.Fault.{Fault}
use Rattle.lu_text.specs.Faults.{Gives, OnLine, meaning_of}
use Rattle.lu_source.specs.Programs.{program_of}
use Rattle.lu_source.specs.Runs.{IsCompiled, compiled}
use Rattle.lu_source.specs.Trees.{Program}
use Rattle.lu_source_text.specs.declared.draft.Draft.{Draft}
use Rattle.lu_source_text.specs.declared.source.Source.{Source}
use Rattle.lu_source_text.specs.Drafts.{drafted_of}
use Rattle.lu_source_text.specs.Grammar.{Drafted, Kind, source_grammar}

-- the source that a text spells is compiled to a component
abbrev pub SourceSound : Type 0
SourceSound =
    (text : List ℕ) (p : Program) → meaning_of source_grammar text ≡ Ok p → IsComponent (compiled p)

-- what a source of the code declares
abbrev pub program_in : Source → Program
program_in s = program_of s.name s.local s.arrays s.locks s.operations.items

-- what a reader returned is this source or this fault, unless memory ran out
abbrev pub GivesSource : Result Source (Fault Kind) → Result Program (Fault Kind) → Type 0
GivesSource returned meant = Gives (result_map_both program_in (λ e. e) returned) meant

-- the draft after line n, or the fault of this line, unless memory ran out
abbrev pub GivesDraft : ℕ → Result (Unit {0}) (Fault Kind) → Draft → Result Drafted Kind → Type 0
GivesDraft n returned new meant =
    OnLine n (result_map_both (λ _. drafted_of new) (λ e. e) returned) meant

-- the component of a text, or the text's first fault
abbrev pub component_meant : List ℕ → Result Component (Fault Kind)
component_meant text = result_map_both compiled (λ e. e) (meaning_of source_grammar text)

-- the component is compiled from the source that the text spells, and does as that source
abbrev pub IsCompiledFrom : List ℕ → Component → Type 0
IsCompiledFrom text c =
    (p : Program) × (meaning_of source_grammar text ≡ Ok p) × IsCompiled p c
