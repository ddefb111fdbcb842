-- What a certificate for one round, or for any number of rounds, says.
use Rattle.std.specs.Prelude.{ℕ, List}
use Rattle.lu_component.specs.Component.{Component}
use Rattle.lu_test.specs.Matrix.{Matrix}
use Rattle.lu_machine.specs.Starts.{FromEachStart, Settles}
use Rattle.lu_history.specs.declared.serial.SerialOp.{SerialOp}
use Rattle.lu_answers.specs.declared.rounds.Rounds.{Rounds}
use Rattle.lu_answers.specs.declared.rounds.Rounds.TheVariants.{One}
use Rattle.lu_answers.specs.Asking.{SomeOffends}
use Rattle.lu_answers.specs.Ways.{way_of}
use Rattle.lu_certify.specs.declared.certificate.Certificate.TheVariants as certificates
use Rattle.lu_certify.specs.Certificates.{AreBeginnings}
use Rattle.lu_certify.specs.Laws.{Decides}
use Rattle.lu_always.specs.Always.{FailsBy, IsAlwaysLinearizable}
use Rattle.lu_always.specs.Livelocks.{HasLivelockBy, NeverLivelocks}
use Rattle.lu_forever.specs.declared.certifying.RoundsVerdict.{RoundsVerdict}
use Rattle.lu_forever.specs.declared.certifying.RoundsVerdict.TheVariants.{Linearizable, Livelock, NotLinearizable, Offends, Undecided}

-- All matrices that are unrolled from this one are linearizable, and none has a livelock; or the moves
-- are a schedule of one that fails; or all are linearizable, and the moves are a schedule that is a
-- livelock of one; or one has a serial run that offends.
abbrev pub IsRoundsVerdict : Component → Rounds → Matrix → ℕ → RoundsVerdict → Type 0
IsRoundsVerdict c rounds matrix bound Linearizable =
    IsAlwaysLinearizable c matrix (way_of rounds) bound × NeverLivelocks c matrix (way_of rounds)
IsRoundsVerdict c rounds matrix bound (Livelock moves) =
    IsAlwaysLinearizable c matrix (way_of rounds) bound
    × HasLivelockBy c matrix (way_of rounds) moves.items
IsRoundsVerdict c rounds matrix bound (NotLinearizable moves) =
    FailsBy c matrix (way_of rounds) moves.items
IsRoundsVerdict c rounds matrix bound Offends = SomeOffends c rounds matrix bound
IsRoundsVerdict c rounds matrix bound Undecided = Unit {0}

-- ---- laws

-- Where all unrolled matrices are linearizable, no serial run of one of them offends.
abbrev pub LinearizableNeverOffends : Type 0
LinearizableNeverOffends =
    (c : Component) (rounds : Rounds) (matrix : Matrix) (bound : ℕ) →
    IsAlwaysLinearizable c matrix (way_of rounds) bound → SomeOffends c rounds matrix bound → ⊥

-- Where all matrices of one round, which are the cuts of the matrix, are linearizable, and none has a
-- livelock, the prefixes of the matrix's serial histories are a certificate that decides.
abbrev pub OneRoundDecides : Type 0
OneRoundDecides =
    (c : Component) (matrix : Matrix) (bound : ℕ) (members : List (List SerialOp)) →
    Settles c matrix → IsRoundsVerdict c One matrix bound Linearizable
    → FromEachStart c matrix (λ s. AreBeginnings s members)
    → Decides c matrix (certificates.Linearizable members)
