-- Where a machine stands, kept apart from it.
use Rattle.std.specs.Prelude.{◌≡◌, ℕ, List, length, All, Option}
use Rattle.lu_component.specs.Component.{Component}
use Rattle.lu_test.specs.Matrix.{Matrix, thread_count}
use Rattle.lu_machine.specs.declared.position.Position.{Position}
use Rattle.lu_machine.specs.declared.thread.Thread.{Thread}
use Rattle.lu_machine.specs.Layout.{IsStanding, StandsIn}
use Rattle.lu_machine.specs.States.{State, first_cell}

-- s with these cells, these locks, and threads that stand so
abbrev pub standing_so : State → List ℕ → List (Option ℕ) → List Thread → State
standing_so s values owners standing =
    record s { cells = values; locks = owners; threads = standing }

abbrev pub at_position : State → Position → State
at_position s p = standing_so s p.cells.items p.locks.items p.threads.items

-- a machine of the component and the matrix can stand so
pub record CanStand (c : Component) (matrix : Matrix) (values : List ℕ) (owners : List (Option ℕ))
    (standing : List Thread) : Type 0 where
  pub cells : length values ≡ first_cell c.arrays (length c.arrays)
  pub locks : length owners ≡ length c.locks
  pub threads : length standing ≡ thread_count matrix
  pub stand : All IsStanding standing
  pub in_code : All (StandsIn c) standing

-- and there
abbrev pub CanStandAt : Component → Matrix → Position → Type 0
CanStandAt c matrix p = CanStand c matrix p.cells.items p.locks.items p.threads.items
