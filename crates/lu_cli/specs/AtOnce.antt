-- What `certify` answers by one search of all cuts.
use Rattle.std.specs.Prelude.{ℕ, ◌<◌, ◌/◌, ◌⊎◌, List, Option, Result, IfOk, IfSome}
use Rattle.lu_component.specs.Component.{Component}
use Rattle.lu_test.specs.Matrix.{Matrix}
use Rattle.lu_machine.specs.declared.test.Test.{Test}
use Rattle.lu_machine.specs.States.{State}
use Rattle.lu_machine.specs.Starts.{FromEachStart, IsStart}
use Rattle.lu_history.specs.declared.serial.SerialOp.{SerialOp}
use Rattle.lu_certify.specs.declared.certificate.Certificate.TheVariants.{Linearizable}
use Rattle.lu_certify.specs.Certificates.{AreBeginnings}
use Rattle.lu_answers.specs.declared.rounds.Rounds.TheVariants.{One}
use Rattle.lu_forever.specs.declared.certifying.RoundsVerdict.TheVariants as verdicts
use Rattle.lu_forever.specs.Certified.{IsRoundsVerdict}
use Rattle.lu_cli.specs.Outcomes.{Answer}
use Rattle.lu_cli.specs.declared.request.CertifyOptions.{CertifyOptions}
use Rattle.lu_cli.specs.declared.request.Repetition.TheVariants.{UpTo}
use Rattle.lu_cli.specs.declared.serial.TheConstants.{MOST_LISTED}
use Rattle.lu_cli.specs.Serial.{HasHistories}
use Rattle.lu_cli.specs.Shows.{ShowsCertificate}
use Rattle.lu_cli.specs.Unrolled.{IsVerdictOn}

-- Each ended schedule of each cut is good for the serial histories of that cut, and wherever a schedule
-- leads, some schedule ends: in one round, the unrolled matrices are the cuts.
abbrev pub AreCutsClear : Component → Matrix → ℕ → Type 0
AreCutsClear c matrix serial = IsRoundsVerdict c One matrix serial verdicts.Linearizable

-- the certificate that lists the prefixes of the serial histories
abbrev pub ShowsPrefixes : Component → Matrix → Answer → Type 0
ShowsPrefixes c matrix answer =
    (members : List (List SerialOp)) × FromEachStart c matrix (λ s. AreBeginnings s members)
    × ShowsCertificate c (Linearizable members) answer

-- there are more serial histories than are listed
pub record HasTooMany (c : Component) (matrix : Matrix) (serial : ℕ) : Type 0 where
  pub start : State
  pub starts : IsStart c matrix start
  pub count : ℕ
  pub has : HasHistories start serial count
  pub many : MOST_LISTED < count

-- with a quarter of the nodes: a node of this search takes more memory than one of a cut
abbrev pub in_one_search : CertifyOptions → CertifyOptions
in_one_search asked = record asked { nodes = asked.nodes / 4 }

-- All cuts are clear, and the prefixes of the serial histories are listed. Or there are too many serial
-- histories, and the answer is the verdict on one round.
abbrev pub IsCertifiedAtOnce : Component → Matrix → CertifyOptions → Answer → Type 0
IsCertifiedAtOnce c matrix asked answer =
    (AreCutsClear c matrix asked.options.serial × ShowsPrefixes c matrix answer)
    ⊎ (HasTooMany c matrix asked.options.serial
    × IsVerdictOn c matrix (in_one_search asked) (UpTo 1) answer)

-- so it is of the result, if there is one
abbrev pub CertifiesAtOnce : {E : Type 0} → Test → CertifyOptions → Result (Option Answer) E
    → Type 0
CertifiesAtOnce test asked result =
    IfOk result (λ found.
    IfSome found (IsCertifiedAtOnce test.component.now test.matrix.now asked))
