-- What holds of the language of components.
use Rattle.std.specs.Prelude.{◌≡◌, Ok}
use Rattle.lu_text.specs.Faults.{meaning_of}
use Rattle.lu_component.specs.Component.{Component, IsComponent}
use Rattle.lu_lang.specs.ComponentText.{component_text}
use Rattle.lu_lang.specs.Grammar.{component_grammar}

-- what is written of a component is read as it was
abbrev pub ComponentsReadAgain : Type 0
ComponentsReadAgain =
    (c : Component) → IsComponent c → meaning_of component_grammar (component_text c) ≡ Ok c
