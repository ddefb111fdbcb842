-- The pieces at a depth, and the frontier and the cover that they are.
use Rattle.std.specs.Prelude.{◌≡◌, ℕ, ◌<◌, ◌≤◌, ◌⊎◌, List, length, min, Vec}
use Rattle.lu_component.specs.Component.{Component}
use Rattle.lu_test.specs.declared.schedule.Move.{Move}
use Rattle.lu_test.specs.Matrix.{Matrix}
use Rattle.lu_machine.specs.States.{State}
use Rattle.lu_machine.specs.Ends.{IsEnded}
use Rattle.lu_machine.specs.Starts.{IsStart}
use Rattle.lu_machine.specs.Schedules.{Reaches, IsSchedule, AreAll, IsCover}

-- u has d moves, or fewer and is ended
abbrev pub IsPieceAt : State → ℕ → List Move → Type 0
IsPieceAt s d u =
    ((length u ≡ d) × IsSchedule s u) ⊎ ((length u < d) × Reaches s u (λ end _. IsEnded end))

-- all pieces at the greatest depth, up to `most`, at which there are at most 65,536
pub record IsFrontier (s : State) (most : ℕ) (pieces : List (List Move)) : Type 0 where
  pub depth : ℕ
  pub within : depth ≤ most
  pub all : AreAll (IsPieceAt s depth) pieces
  pub few : length pieces ≤ 65536
  pub greatest : (d : ℕ) (list : List (List Move)) → depth < d → d ≤ most
      → AreAll (IsPieceAt s d) list → 65536 < length list

-- the frontier and the cover of the tree of a component and a matrix
abbrev pub IsFrontierFrom : {Z : Type 0} → Component → Matrix → ℕ → ℕ → Vec (List Move) Z
    → Type 0
IsFrontierFrom c matrix bound depth pieces =
    (s : State) → IsStart c matrix s → IsFrontier s (min bound depth) pieces.items

abbrev pub IsCoverFrom : Component → Matrix → ℕ → List (List Move) → Type 0
IsCoverFrom c matrix bound pieces = (s : State) → IsStart c matrix s → IsCover s bound pieces
