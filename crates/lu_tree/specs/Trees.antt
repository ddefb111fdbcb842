-- What is found below a schedule.
use Rattle.std.specs.Prelude.{ℕ, ◌≤◌, Bool, true, false, List, length, Result, Ok, Err, IfOk}
use Rattle.lu_component.specs.Component.{Component}
use Rattle.lu_test.specs.declared.schedule.Move.{Move}
use Rattle.lu_test.specs.Matrix.{Matrix}
use Rattle.lu_machine.specs.States.{State}
use Rattle.lu_machine.specs.Starts.{IsStart}
use Rattle.lu_machine.specs.Tests.{IsStartOf}
use Rattle.lu_machine.specs.Schedules.{BeginsWith, IsSchedule}
use Rattle.lu_history.specs.declared.serial.SerialOp.{SerialOp}
use Rattle.lu_witness.specs.Caches.{Cache}
use Rattle.lu_witness.specs.Witnesses.{IsMember}
use Rattle.lu_witness.specs.Goodness.{IsFirstBad, AreAllGood}
use Rattle.lu_tree.specs.declared.found.Found.{Found}
use Rattle.lu_tree.specs.declared.found.Found.TheVariants.{Clean, Bad, Abandoned}
use Rattle.lu_tree.specs.declared.space.SearchSpace.{SearchSpace}

-- the schedules that begin with this one
abbrev pub Below : List Move → List Move → Type 0
Below from u = BeginsWith u from

-- the first bad schedule of the part, and why; or, where all are good, the numbers
abbrev pub IsFound : (List SerialOp → Type 0) → State → ℕ → (List Move → Type 0) → Found → Type 0
IsFound Set s bound Part (Clean counts) = AreAllGood Set s bound Part counts
IsFound Set s bound Part (Bad schedule why) = IsFirstBad Set s bound Part schedule why
IsFound Set s bound Part Abandoned = ⊥

-- the same, unless the search was abandoned
abbrev pub IsFoundWatched : (List SerialOp → Type 0) → State → ℕ → (List Move → Type 0) → Found
    → Type 0
IsFoundWatched Set s bound Part (Clean counts) = AreAllGood Set s bound Part counts
IsFoundWatched Set s bound Part (Bad schedule why) = IsFirstBad Set s bound Part schedule why
IsFoundWatched Set s bound Part Abandoned = Unit {0}

-- the search was abandoned
abbrev pub is_abandoned : {E : Type 0} → Result Found E → Bool
is_abandoned (Ok (Clean counts)) = false
is_abandoned (Ok (Bad schedule why)) = false
is_abandoned (Ok Abandoned) = true
is_abandoned (Err e) = false

-- what is found from the start of the component and the matrix among the schedules that begin with
-- `from`; and the same over the tree of a cache, unless the search was abandoned
abbrev pub FindsBelow : {E : Type 0} → Component → Matrix → List (List SerialOp) → List Move → ℕ
    → Result Found E → Type 0
FindsBelow c matrix members from bound result =
    (s : State) → IsStart c matrix s → IfOk result (IsFound (IsMember members) s bound (Below from))

abbrev pub MayFindOver : {T E : Type 0} → Component → Matrix → (T → List (List SerialOp))
    → Cache T → List Move → ℕ → Result Found E → Type 0
MayFindOver c matrix members cache from bound result =
    (s : State) → IsStart c matrix s
    → IfOk result (IsFoundWatched (IsMember (members cache.tree)) s bound (Below from))

abbrev pub MayFind : {E : Type 0} → SearchSpace → List (List SerialOp) → List Move
    → Result Found E → Type 0
MayFind space members from result =
    (s : State) → IsStartOf space.test s
    → IfOk result (IsFoundWatched (IsMember members) s space.bound (Below from))

-- the space can be searched below a schedule, which has no more moves than the bound
pub record CanSearch (space : SearchSpace) (from : List Move) : Type 0 where
  pub few : space.bound ≤ 256
  pub short : length from ≤ space.bound
  pub leads : (s : State) → IsStartOf space.test s → IsSchedule s from
