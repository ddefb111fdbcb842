-- The exits of a node: the nodes that represent the states to which steps of its open operations lead.
use Rattle.std.specs.Prelude.{◌≡◌, ℕ, List, Option, Some, slice_get}
use Rattle.lu_test.specs.declared.schedule.Move.{Move}
use Rattle.lu_machine.specs.declared.event.Event.{Event}
use Rattle.lu_machine.specs.States.{State}
use Rattle.lu_machine.specs.Steps.{IsFeasible}
use Rattle.lu_horizon.specs.Dead.{DeadTable}
use Rattle.lu_serial.specs.Serial.{HasOpen}
use Rattle.lu_tree.specs.Alike.{AreAlike}
use Rattle.lu_graph.specs.First.{GoesFirst}
use Rattle.lu_client.specs.Clients.{ClientStep}
use Rattle.lu_client.specs.Stages.{IsIn}
use Rattle.lu_answers.specs.declared.rounds.Rounds.{Rounds}
use Rattle.lu_answers.specs.Ways.{way_of}
use Rattle.lu_always.specs.Stored.{StoredNode, at_stored}

-- the move leads from state s to one that the node stored at this index represents
abbrev pub MovesTo : DeadTable → Rounds → List StoredNode → State → Move → ℕ → Type 0
MovesTo dead rounds all s m index =
    (to : StoredNode) × (b : State) × (event : Option Event) × (slice_get all index ≡ Some to)
    × ClientStep (way_of rounds) s m b event × AreAlike dead b (at_stored s to.position)

-- These are the indexes of the nodes to which moves among these lead from state s: one of the moves
-- leads to each of them, and each of the moves that is feasible leads to one of them.
pub record AreReached (Among : Move → Type 0) (dead : DeadTable) (rounds : Rounds)
    (all : List StoredNode) (indexes : List ℕ) (s : State) : Type 0 where
  pub moves : (index : ℕ) → IsIn indexes index
      → (m : Move) × Among m × MovesTo dead rounds all s m index
  pub each : (m : Move) → Among m → IsFeasible s m
      → (index : ℕ) × IsIn indexes index × MovesTo dead rounds all s m index

-- by moves of thread t
abbrev pub AreReachedBy : ℕ → DeadTable → Rounds → List StoredNode → List ℕ → State → Type 0
AreReachedBy t = AreReached (λ m. m.thread ≡ t)

-- by moves of thread t's open operation
abbrev pub AreExitsOf : ℕ → DeadTable → Rounds → List StoredNode → List ℕ → State → Type 0
AreExitsOf t dead rounds all exits s =
    AreReached (λ m. (m.thread ≡ t) × HasOpen s m.thread) dead rounds all exits s

-- the exits from state s: by moves of open operations; where threads are at left movers, by those of
-- the first of them
abbrev pub AreExits : DeadTable → Rounds → List StoredNode → List ℕ → State → Type 0
AreExits dead rounds all exits s =
    AreReached (λ m. HasOpen s m.thread × GoesFirst s m) dead rounds all exits s
