-- One round: the unrolled matrices are the cuts.
use Rattle.std.specs.Prelude.{◌↔◌, ℕ, Some}
use Rattle.lu_component.specs.Component.{Component}
use Rattle.lu_test.specs.Matrix.{Matrix}
use Rattle.lu_machine.specs.Starts.{FromEachStart}
use Rattle.lu_serial.specs.Cuts.{IsCutOf}
use Rattle.lu_client.specs.Rounds.{IsUnrolledFrom}
use Rattle.lu_client.specs.Rounds.Way.{InOrder}
use Rattle.lu_always.specs.Always.{IsAlwaysLinearizable, IsWell}

-- In one round, the unrolled matrices are the cuts.
abbrev pub OneRoundIsCut : Type 0
OneRoundIsCut =
    (matrix smaller : Matrix) →
    IsUnrolledFrom (InOrder (Some 1)) matrix smaller ↔ IsCutOf matrix smaller

-- So all of them are linearizable exactly where all is well with each cut.
abbrev pub OneRoundIsAllCuts : Type 0
OneRoundIsAllCuts =
    (c : Component) (matrix : Matrix) (bound : ℕ) →
    IsAlwaysLinearizable c matrix (InOrder (Some 1)) bound
    ↔ ((smaller : Matrix) → IsCutOf matrix smaller → FromEachStart c smaller (IsWell bound))
