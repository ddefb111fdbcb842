-- Linearizability of all matrices that are unrolled from one.
use Rattle.std.specs.Prelude.{ℕ, Bool, List, ◌++◌}
use Rattle.lu_component.specs.Component.{Component}
use Rattle.lu_test.specs.declared.schedule.Move.{Move}
use Rattle.lu_test.specs.Matrix.{Matrix}
use Rattle.lu_machine.specs.States.{State}
use Rattle.lu_machine.specs.Starts.{FromEachStart, IsStart}
use Rattle.lu_history.specs.declared.serial.SerialOp.{SerialOp}
use Rattle.lu_history.specs.declared.serial.SerialOutcome.{SerialOutcome}
use Rattle.lu_trie.specs.Conflicts.{ConflictAt}
use Rattle.lu_trie.specs.Members.{contains}
use Rattle.lu_serial.specs.Offences.{NoOffence}
use Rattle.lu_serial.specs.Serial.{IsSerialHistory}
use Rattle.lu_graph.specs.Nodes.{EndsBadly, EndsWell}
use Rattle.lu_refute.specs.Linearizable.{IsLinearizable}
use Rattle.lu_certify.specs.Certificates.{AreBeginnings}
use Rattle.lu_certify.specs.Laws.{ServesAsSpec}
use Rattle.lu_client.specs.Rounds.{IsUnrolledFrom, Way}

-- No serial run from s offends within the bound, and each ended schedule from s, of any length, is
-- good for the serial histories.
abbrev pub IsWell : ℕ → State → Type 0
IsWell bound s = NoOffence s bound × EndsWell (IsSerialHistory s) s

-- this holds of each matrix that is unrolled from the given one
abbrev pub IsAlwaysLinearizable : Component → Matrix → Way → ℕ → Type 0
IsAlwaysLinearizable c matrix way bound =
    (big : Matrix) → IsUnrolledFrom way matrix big → FromEachStart c big (IsWell bound)

-- a prefix of a serial history
abbrev pub IsSerialPrefix : State → List SerialOp → Type 0
IsSerialPrefix s q = (more : List SerialOp) × IsSerialHistory s (q ++ more)

-- some deterministic specification makes the component linearizable on the matrix
abbrev pub HasSpec : Component → Matrix → Type 0
HasSpec c matrix = (spec : List SerialOp → Bool) × ServesAsSpec c matrix spec

-- The schedule u of an unrolled matrix ends, and is not good for the serial histories of that
-- matrix. No deterministic specification makes the component linearizable on it.
pub record FailsBy (c : Component) (matrix : Matrix) (way : Way) (u : List Move)
    : Type 0 where
  pub big : Matrix
  pub unrolled : IsUnrolledFrom way matrix big
  pub start : State
  pub is_start : IsStart c big start
  pub bad : EndsBadly (IsSerialHistory start) start u
  pub none : HasSpec c big → ⊥

-- ---- laws

-- Each unrolled matrix is linearizable, with its cuts, by the prefixes of its serial histories.
abbrev pub AlwaysLinearizes : Type 0
AlwaysLinearizes =
    (c : Component) (matrix : Matrix) (way : Way) (bound : ℕ) (big : Matrix) (s : State) →
    IsAlwaysLinearizable c matrix way bound → IsUnrolledFrom way matrix big
    → IsStart c big s → IsLinearizable c big (IsSerialPrefix s)

-- So a list of these prefixes serves as the specification.
abbrev pub AlwaysServes : Type 0
AlwaysServes =
    (c : Component) (matrix : Matrix) (way : Way) (bound : ℕ) (big : Matrix) (s : State)
    (members : List (List SerialOp)) →
    IsAlwaysLinearizable c matrix way bound → IsUnrolledFrom way matrix big
    → IsStart c big s → AreBeginnings s members → ServesAsSpec c big (contains members)

-- Where all unrolled matrices are linearizable, none fails.
abbrev pub FailsNever : Type 0
FailsNever =
    (c : Component) (matrix : Matrix) (way : Way) (bound : ℕ) (u : List Move) →
    IsAlwaysLinearizable c matrix way bound → FailsBy c matrix way u → ⊥

-- Where no serial run offends, a schedule that is not good for the serial histories refutes each
-- deterministic specification.
abbrev pub BadServesNone : Type 0
BadServesNone =
    (c : Component) (matrix : Matrix) (s : State) (bound : ℕ) (u : List Move) →
    IsStart c matrix s → NoOffence s bound → EndsBadly (IsSerialHistory s) s u
    → HasSpec c matrix → ⊥

-- Where all unrolled matrices are linearizable, no two prefixes of serial histories of one of them
-- conflict.
abbrev pub PrefixesAgree : Type 0
PrefixesAgree =
    (c : Component) (matrix : Matrix) (way : Way) (bound : ℕ) (big : Matrix) (s : State)
    (p q : List SerialOp) (i : ℕ) (o : SerialOutcome) →
    IsAlwaysLinearizable c matrix way bound → IsUnrolledFrom way matrix big
    → IsStart c big s → IsSerialPrefix s p → IsSerialPrefix s q → ConflictAt p q i o → ⊥
