-- What `spec` answers.
use Rattle.std.specs.Prelude.{◌≡◌, ◌⊎◌, ℕ, List}
use Rattle.lu_text.specs.declared.fault.Fault.TheVariants.{At}
use Rattle.lu_text.specs.Words.{exactly_three}
use Rattle.lu_test.specs.Matrix.{Matrix}
use Rattle.lu_history.specs.declared.serial.SerialOp.{SerialOp}
use Rattle.lu_spec.specs.declared.fault.SpecFaultKind.{SpecFaultKind}
use Rattle.lu_spec.specs.Codes.{spec_code_of}
use Rattle.lu_spec.specs.Collecting.{IsCollectFault, IsCollectedAs}
use Rattle.lu_cli.specs.Shows.{IsListed}
use Rattle.lu_cli.specs.Outcomes.{Answer, refused_on_line}
use Rattle.lu_cli.specs.Reading.{ToParts, ToTexts}

-- the specification that a person wrote, in its one spelling, or its fault with its line
abbrev pub IsCollected : Matrix → List ℕ → Answer → Type 0
IsCollected matrix text answer =
    ((members : List (List SerialOp)) × IsCollectedAs matrix text members × IsListed members answer)
    ⊎ ((kind : SpecFaultKind) × (n : ℕ) × IsCollectFault matrix text (At kind n)
    × (answer ≡ refused_on_line (spec_code_of kind) n))

abbrev pub IsAnswerToSpec : List (List ℕ) → Answer → Type 0
IsAnswerToSpec parts =
    ToParts (exactly_three parts) (λ p. ToTexts p.0 p.1 (λ c m. IsCollected m p.2))
