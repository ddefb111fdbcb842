-- Chains of removals: from a matrix that fails to one from which no call can be taken away.
use Rattle.std.specs.Prelude.{◌≡◌, ℕ, ◌<◌, ◌⊎◌, List, [], ◌∷◌, length, Option, Some, None}
use Rattle.lu_component.specs.Component.{Component}
use Rattle.lu_test.specs.Matrix.{Matrix, calls_of, without}
use Rattle.lu_report.specs.declared.report.Report.{Report}
pub use Rattle.lu_report.specs.Parts.{IsFailure}
use Rattle.lu_replay.specs.Reports.{IsReport}
use Rattle.lu_refine.specs.declared.shrink_fault.ShrinkFault.{ShrinkFault}
use Rattle.lu_refine.specs.declared.shrink_fault.ShrinkFault.TheVariants.{NotFailing, Memory}

-- the report of the matrix is a failure or nondeterministic
abbrev pub IsFailing : Component → ℕ → ℕ → Matrix → Type 0
IsFailing c bound serial matrix =
    (r : Report) × IsReport c matrix bound serial r × IsFailure r.finding

-- thread t has a call number k
abbrev pub HasCallNumber : Matrix → ℕ → ℕ → Type 0
HasCallNumber matrix t k = k < length (calls_of matrix t)

-- call k of thread t comes before call l of thread u: by thread, and then by number
abbrev pub ComesBefore : ℕ → ℕ → ℕ → ℕ → Type 0
ComesBefore t k u l = (t < u) ⊎ (t ≡ u) × (k < l)

-- `next` is the matrix without one call, and fails; without an earlier call the matrix does not
-- fail
pub record IsLeastRemoval (Fails : Matrix → Type 0) (matrix next : Matrix) : Type 0 where
  pub thread : ℕ
  pub call : ℕ
  pub there : HasCallNumber matrix thread call
  pub removed : next ≡ without matrix thread call
  pub fails : Fails next
  pub least : (t k : ℕ) → ComesBefore t k thread call → HasCallNumber matrix t k
      → Fails (without matrix t k) → ⊥

-- the matrix without any one of its calls does not fail
abbrev pub IsMinimal : (Matrix → Type 0) → Matrix → Type 0
IsMinimal Fails matrix = (t k : ℕ) → HasCallNumber matrix t k → Fails (without matrix t k) → ⊥

-- From the first matrix to the last: each one fails, and comes from the one before by the least
-- removal; the last is minimal.
abbrev pub IsChain : (Matrix → Type 0) → Matrix → List Matrix → Matrix → Type 0
IsChain Fails matrix [] last = (last ≡ matrix) × Fails matrix × IsMinimal Fails matrix
IsChain Fails matrix (next ∷ rest) last =
    Fails matrix × IsLeastRemoval Fails matrix next × IsChain Fails next rest last

-- the chain of removals from the matrix ends with `last`
abbrev pub ShrinksTo : (Matrix → Type 0) → Matrix → Matrix → Type 0
ShrinksTo Fails matrix last = (rest : List Matrix) × IsChain Fails matrix rest last

-- the last matrix of the chain, with its report
abbrev pub IsShrunk : Component → Matrix → ℕ → ℕ → Matrix × Report → Type 0
IsShrunk c matrix bound serial shrunk =
    ShrinksTo (IsFailing c bound serial) matrix shrunk.0 × IsReport c shrunk.0 bound serial shrunk.1

-- the least removal, with its report; or nothing, where the matrix is minimal
abbrev pub IsRound : Component → Matrix → ℕ → ℕ → Option (Matrix × Report) → Type 0
IsRound c matrix bound serial None = IsMinimal (IsFailing c bound serial) matrix
IsRound c matrix bound serial (Some smaller) =
    IsLeastRemoval (IsFailing c bound serial) matrix smaller.0
    × IsReport c smaller.0 bound serial smaller.1

-- the matrix does not fail, and this is its report; or memory was refused
abbrev pub IsShrinkFault : Component → Matrix → ℕ → ℕ → ShrinkFault → Type 0
IsShrinkFault c matrix bound serial (NotFailing r) =
    IsReport c matrix bound serial r × (IsFailure r.finding → ⊥)
IsShrinkFault c matrix bound serial Memory = Unit {0}

-- A chain of removals has one end.
abbrev pub OneShrunk : Type 0
OneShrunk =
    (c : Component) (matrix a b : Matrix) (bound serial : ℕ) →
    ShrinksTo (IsFailing c bound serial) matrix a → ShrinksTo (IsFailing c bound serial) matrix b
    → a ≡ b
