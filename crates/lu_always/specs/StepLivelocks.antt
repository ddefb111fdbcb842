-- Livelocks, where nodes are reached by steps.
use Rattle.std.specs.Prelude.{◌≡◌, Bool, List, [], ◌∷◌, Option}
use Rattle.lu_component.specs.Component.{Component}
use Rattle.lu_test.specs.declared.schedule.Move.{Move}
use Rattle.lu_test.specs.Matrix.{Matrix}
use Rattle.lu_machine.specs.declared.event.Event.{Event}
use Rattle.lu_machine.specs.Starts.{IsStart}
use Rattle.lu_machine.specs.States.{State}
use Rattle.lu_horizon.specs.Dead.{DeadTable, IsDeadTable}
use Rattle.lu_serial.specs.Serial.{HasOpen}
use Rattle.lu_graph.specs.First.{GoesFirst}
use Rattle.lu_graph.specs.Guards.{TellsGuarded}
use Rattle.lu_client.specs.Clients.{AllBlocked, ClientStep, client_matrix}
use Rattle.lu_client.specs.Rounds.{Way}
use Rattle.lu_client.specs.Stages.{IsIn}
use Rattle.lu_answers.specs.Tables.{Table}
use Rattle.lu_always.specs.Livelocks.{HasLivelockBy, NeverLivelocks}
use Rattle.lu_always.specs.Nodes.{IsFirst, MovesLead, Node}
use Rattle.lu_always.specs.Steps.{AreStepNodes}

-- the client's moves lead from a to b, each of an open operation; where threads are at left movers,
-- it is the move of the first of them
abbrev pub OpenStepsLead : Way → State → List Move → State → Type 0
OpenStepsLead way a [] b = b ≡ a
OpenStepsLead way a (m ∷ u) b =
    (next : State) × (event : Option Event) × HasOpen a m.thread × GoesFirst a m
    × ClientStep way a m next event × OpenStepsLead way next u b

-- some such moves lead to where each open operation is blocked
abbrev pub MayEndBySteps : Way → State → Type 0
MayEndBySteps way a = (u : List Move) × (b : State) × OpenStepsLead way a u b × AllBlocked b

-- Where there is a list of nodes that has all nodes to which steps lead, and from each of them steps
-- of open operations alone may lead to where all of these are blocked, no unrolled matrix has a
-- livelock.
abbrev pub StepNodesNeverLivelock : Type 0
StepNodesNeverLivelock =
    (c : Component) (way : Way) (matrix : Matrix) (start : State) (dead : DeadTable)
    (table : Table) (guarded : List Bool) (list : List Node) →
    IsStart c (client_matrix way matrix) start → IsDeadTable c dead → TellsGuarded c guarded
    → AreStepNodes dead table way start list
    → ((node : Node) → IsIn list node → MayEndBySteps way node.state)
    → NeverLivelocks c matrix way

-- Where moves lead to a node from which they may not, some unrolled matrix has a livelock by these
-- moves.
abbrev pub LostStepNodeLivelocks : Type 0
LostStepNodeLivelocks =
    (c : Component) (way : Way) (matrix : Matrix) (start : State) (dead : DeadTable)
    (table : Table) (guarded : List Bool) (first : Node) (u : List Move) (node : Node) →
    IsStart c (client_matrix way matrix) start → IsDeadTable c dead → TellsGuarded c guarded
    → IsFirst dead start first → MovesLead dead table way first u node
    → (MayEndBySteps way node.state → ⊥) → HasLivelockBy c matrix way u
