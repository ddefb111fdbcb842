-- Nodes that are kept.
use Rattle.std.specs.Prelude.{ℕ, Bool, List, Option}
use Rattle.lu_machine.specs.declared.thread.Thread.{Thread}

-- the cells, the locks and the threads of a state, and which of the members of a set are possible
-- still
pub record Kept : Type 0 where
  pub cells : List ℕ
  pub locks : List (Option ℕ)
  pub threads : List Thread
  pub alive : List Bool
