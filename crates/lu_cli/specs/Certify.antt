-- What `certify` answers.
use Rattle.std.specs.Prelude.{ℕ, ◌≡◌, ◌≢◌, ◌⊎◌, List, Result}
use Rattle.lu_text.specs.Words.{exactly_two}
use Rattle.lu_component.specs.Component.{Component}
use Rattle.lu_test.specs.Matrix.{Matrix}
use Rattle.lu_machine.specs.declared.test.Test.{Test}
use Rattle.lu_certify.specs.declared.certificate.Certificate.{Certificate}
use Rattle.lu_grain.specs.Longer.{IsMadeWithin}
use Rattle.lu_cli.specs.AtOnce.{IsCertifiedAtOnce}
pub use Rattle.lu_cli.specs.Local.{certified_local}
use Rattle.lu_cli.specs.Shows.{ShowsCertificate}
use Rattle.lu_cli.specs.Outcomes.{Answer, no_worker}
use Rattle.lu_cli.specs.declared.refusal.Refusal.{Refusal}
use Rattle.lu_cli.specs.Refusals.{Answered}
use Rattle.lu_cli.specs.Reading.{ToParts, ToTexts}
use Rattle.lu_cli.specs.declared.request.CertifyOptions.{CertifyOptions}

-- the certificate of the component with this many local instructions to a move, whatever the number
-- of workers and the depth; or, with more than one worker, that a thread could not start
abbrev pub IsCertifiedByCuts : Component → Matrix → CertifyOptions → Answer → Type 0
IsCertifiedByCuts c matrix asked answer =
    ((certificate : Certificate)
    × IsMadeWithin (certified_local asked c) c matrix asked.options asked.nodes certificate
    × ShowsCertificate c certificate answer)
    ⊎ ((asked.options.workers ≢ 1) × (answer ≡ no_worker))

-- by one search of all cuts, or by a search of each
abbrev pub IsCertified : Component → Matrix → CertifyOptions → Answer → Type 0
IsCertified c matrix asked answer =
    IsCertifiedAtOnce c matrix asked answer ⊎ IsCertifiedByCuts c matrix asked answer

-- so it is of the result
abbrev pub Certifies : Test → CertifyOptions → Result Answer Refusal → Type 0
Certifies test asked = Answered (IsCertified test.component.now test.matrix.now asked)

abbrev pub IsAnswerToCertify : CertifyOptions → List (List ℕ) → Answer → Type 0
IsAnswerToCertify asked parts =
    ToParts (exactly_two parts) (λ p. ToTexts p.0 p.1 (λ c m. IsCertified c m asked))
