-- Specifications: deterministic sets of serial histories, closed under beginnings.
use Rattle.std.specs.Prelude.{ℕ, ◌≤◌, List, [], All, length, slice_index_or}
use Rattle.lu_history.specs.declared.serial.SerialOp.{SerialOp}
use Rattle.lu_history.specs.Serial.{IsOutcome}
use Rattle.lu_test.specs.Matrix.{Matrix, calls_of}
use Rattle.lu_trie.specs.Members.{AllSerial}
use Rattle.lu_trie.specs.Conflicts.{IsDeterministic}
use Rattle.lu_witness.specs.Witnesses.{entries}
use Rattle.lu_spec.specs.Beginnings.{Has, IsClosed}

-- the operation ended so
abbrev pub HasOutcome : SerialOp → Type 0
HasOutcome op = IsOutcome op.outcome

-- each operation of each member ended so
abbrev pub AllHaveOutcomes : List (List SerialOp) → Type 0
AllHaveOutcomes members = (q : List SerialOp) → Has members q → All HasOutcome q

-- no two members conflict; with each member its beginnings are members; the empty history is one;
-- `Stuck` stands only last; returned values are numbers of 32 bits
pub record IsSpec (members : List (List SerialOp)) : Type 0 where
  pub deterministic : IsDeterministic members
  pub closed : IsClosed members
  pub empty : Has members []
  pub serial : AllSerial members
  pub outcomes : AllHaveOutcomes members

-- no more entries of a thread than it has calls: none of a thread that the matrix does not have
abbrev pub FitsMatrix : Matrix → List SerialOp → Type 0
FitsMatrix matrix q = (t : ℕ) → length (entries t q) ≤ length (calls_of matrix t)

-- each member fits the matrix
abbrev pub AreOf : Matrix → List (List SerialOp) → Type 0
AreOf matrix members = (q : List SerialOp) → Has members q → FitsMatrix matrix q

-- no more entries of a thread than are left to it
abbrev pub FitsIn : List ℕ → List SerialOp → Type 0
FitsIn left q = (t : ℕ) → length (entries t q) ≤ slice_index_or left t 0

-- each history fits so
abbrev pub AllFitIn : List ℕ → List (List SerialOp) → Type 0
AllFitIn left histories = (q : List SerialOp) → Has histories q → FitsIn left q
