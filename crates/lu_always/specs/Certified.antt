-- One round: what certificates say of the unrolled matrices.
use Rattle.std.specs.Prelude.{List, Some}
use Rattle.lu_component.specs.Component.{Component}
use Rattle.lu_test.specs.declared.schedule.Move.{Move}
use Rattle.lu_test.specs.Matrix.{Matrix}
use Rattle.lu_machine.specs.Starts.{Settles}
use Rattle.lu_history.specs.declared.serial.SerialOp.{SerialOp}
use Rattle.lu_report.specs.declared.report.Report.{Report}
use Rattle.lu_certify.specs.declared.certificate.Certificate.TheVariants.{Linearizable, Livelock, NotLinearizable}
use Rattle.lu_certify.specs.declared.limits.Limits.{Limits}
use Rattle.lu_certify.specs.Certificates.{IsCertificate}
use Rattle.lu_client.specs.Rounds.Way.{InOrder}
use Rattle.lu_always.specs.Always.{IsAlwaysLinearizable}
use Rattle.lu_always.specs.Livelocks.{HasLivelockBy}

-- Where a certificate says that the matrix is linearizable, all matrices of one round are.
abbrev pub CertifiedInOneRound : Type 0
CertifiedInOneRound =
    (c : Component) (matrix : Matrix) (limits : Limits) (members : List (List SerialOp)) →
    IsCertificate c matrix limits (Linearizable members)
    → IsAlwaysLinearizable c matrix (InOrder (Some 1)) limits.serial

-- Where one says that it is not, they are not.
abbrev pub RefutedInOneRound : Type 0
RefutedInOneRound =
    (c : Component) (matrix : Matrix) (limits : Limits) (smaller : Matrix) (r : Report) →
    Settles c matrix → IsCertificate c matrix limits (NotLinearizable smaller r)
    → IsAlwaysLinearizable c matrix (InOrder (Some 1)) limits.serial → ⊥

-- Where one says that a cut has a livelock, its schedule is one in one round.
abbrev pub LivelockInOneRound : Type 0
LivelockInOneRound =
    (c : Component) (matrix : Matrix) (limits : Limits) (smaller : Matrix) (u : List Move) →
    Settles c matrix → IsCertificate c matrix limits (Livelock smaller u)
    → HasLivelockBy c matrix (InOrder (Some 1)) u

-- Where one says that the matrix is linearizable, no schedule is a livelock in one round.
abbrev pub NoLivelockInOneRound : Type 0
NoLivelockInOneRound =
    (c : Component) (matrix : Matrix) (limits : Limits) (members : List (List SerialOp))
    (u : List Move) →
    Settles c matrix → IsCertificate c matrix limits (Linearizable members)
    → HasLivelockBy c matrix (InOrder (Some 1)) u → ⊥
