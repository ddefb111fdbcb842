-- What a walk below a node leaves after.
use Rattle.std.specs.Prelude.{◌≡◌, ◌≤◌, ℕ, Bool, false, true, List, [], Result, Ok, Err, length, vec_capacity}
use Rattle.lu_test.specs.declared.schedule.Move.{Move}
use Rattle.lu_machine.specs.States.{progress}
use Rattle.lu_history.specs.Standing.{Agree}
use Rattle.lu_history.specs.declared.serial.SerialOp.{SerialOp}
use Rattle.lu_tree.specs.declared.found.Found.{Found}
use Rattle.lu_tree.specs.declared.found.Found.TheVariants.{Clean, Bad, Abandoned}
use Rattle.lu_tree.specs.declared.halt.Halt.{Halt}
use Rattle.lu_tree.specs.declared.halt.Halt.TheVariants.{NotGood, Stopped, Memory}
use Rattle.lu_tree.specs.declared.known.Known.{Known}
use Rattle.lu_tree.specs.declared.node.Node.{Node}
use Rattle.lu_tree.specs.declared.progress.WalkProgress.{WalkProgress}
use Rattle.lu_tree.specs.Known.{IsKnownNode, counts_of, kids_of}
use Rattle.lu_tree.specs.Walks.{HaltsAtNode, IsBadEnd, IsCountOfNode, IsReadyToWalk}

-- both are nodes of runs of one component and one matrix, over one tree
pub record IsOfOneRun {T Place : Type 0} (node end : Node T Place) : Type 0 where
  pub component : end.machine.component ≡ node.machine.component
  pub matrix : end.machine.matrix ≡ node.machine.matrix
  pub tree : end.trail.tree ≡ node.trail.tree

-- The walk ends at a node over the same tree, whose history is that of its machine. The path by
-- which it went on is no longer than the moves that were left, and has room for any.
pub record StaysBelow {T Place : Type 0} (node : Node T Place) (left : ℕ) (tally : WalkProgress)
    (end : Node T Place) : Type 0 where
  pub run : IsOfOneRun node end
  pub agree : Agree (progress end.machine) end.trail.history
  pub room : 256 ≤ vec_capacity tally.path
  pub short : length tally.path.items ≤ left

-- The walk passed: it is back at the node, can go on, and this is known below the node.
pub record Passed {T Place : Type 0} (members : T → List (List SerialOp)) (node : Node T Place)
    (left : ℕ) (tally : WalkProgress) (end : Node T Place) (below : Known) : Type 0 where
  pub machine : end.machine ≡ node.machine
  pub history : end.trail.history ≡ node.trail.history
  pub ready : IsReadyToWalk tally
  pub known : IsKnownNode members node left below

-- The walk passed; or it halted at a schedule that ends, and all before it are good; or the watch
-- stopped it; or memory was refused.
abbrev pub IsWalked : {T Place : Type 0} → (T → List (List SerialOp)) → Node T Place → ℕ
    → WalkProgress → Node T Place → Result Known Halt → Type 0
IsWalked members node left tally end (Ok below) = Passed members node left tally end below
IsWalked members node left tally end (Err NotGood) = HaltsAtNode members node left tally end
IsWalked members node left tally end (Err Stopped) = Unit {0}
IsWalked members node left tally end (Err Memory) = Unit {0}

-- the watch stopped the walk
abbrev pub was_stopped : Result Known Halt → Bool
was_stopped (Ok below) = false
was_stopped (Err NotGood) = false
was_stopped (Err Stopped) = true
was_stopped (Err Memory) = false

-- the numbers of a schedule that is cut at the node, or ends there, and nothing of states that
-- follow
abbrev pub IsCountedAlone : {T Place : Type 0} → (T → List (List SerialOp)) → Node T Place → Known
    → Type 0
IsCountedAlone members node known =
    IsCountOfNode members node (counts_of known) × (kids_of known ≡ [])

-- this schedule is answered, which ends at the node and is not good, and why it is not
abbrev pub IsBadFound : {T Place : Type 0} → (T → List (List SerialOp)) → Node T Place → List Move
    → Found → Type 0
IsBadFound members node u (Bad schedule why) = (schedule ≡ u) × IsBadEnd members node why
IsBadFound members node u (Clean counts) = ⊥
IsBadFound members node u Abandoned = ⊥
