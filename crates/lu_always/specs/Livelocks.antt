-- Livelocks of matrices that are unrolled from one: threads may spin forever.
use Rattle.std.specs.Prelude.{List, Option}
use Rattle.lu_component.specs.Component.{Component}
use Rattle.lu_test.specs.declared.schedule.Move.{Move}
use Rattle.lu_test.specs.Matrix.{Matrix}
use Rattle.lu_machine.specs.declared.event.Event.{Event}
use Rattle.lu_machine.specs.Runs.{Leads}
use Rattle.lu_machine.specs.Starts.{FromEachStart, IsStart}
use Rattle.lu_machine.specs.States.{State}
use Rattle.lu_graph.specs.Hopeless.{LosesHope}
use Rattle.lu_horizon.specs.Dead.{DeadTable, IsDeadTable}
use Rattle.lu_client.specs.Clients.{ClientStep, client_matrix}
use Rattle.lu_client.specs.Livelock.{MayEnd, SomeEnds}
use Rattle.lu_client.specs.Rounds.{IsUnrolledFrom, Way}
use Rattle.lu_client.specs.Stages.{IsIn}
use Rattle.lu_always.specs.Nodes.{IsAfterMove, MovesLead, Node, Represents}
use Rattle.lu_answers.specs.Tables.{Table}

-- wherever a schedule leads from s, some schedule ends
abbrev pub CanAlwaysEnd : State → Type 0
CanAlwaysEnd s =
    (u : List Move) (end : State) (history : List Event) → Leads s u end history → SomeEnds end

-- no unrolled matrix has a livelock: wherever a schedule of it leads, some schedule ends
abbrev pub NeverLivelocks : Component → Matrix → Way → Type 0
NeverLivelocks c matrix way =
    (big : Matrix) → IsUnrolledFrom way matrix big → FromEachStart c big CanAlwaysEnd

-- The schedule u of an unrolled matrix is a livelock: it leads to a state from which no schedule
-- ends.
pub record HasLivelockBy (c : Component) (matrix : Matrix) (way : Way) (u : List Move)
    : Type 0 where
  pub big : Matrix
  pub unrolled : IsUnrolledFrom way matrix big
  pub start : State
  pub is_start : IsStart c big start
  pub lost : LosesHope start u

-- A list of nodes with the first one, and with all nodes to which moves lead.
pub record AreAllNodes (dead : DeadTable) (table : Table) (way : Way) (start : State)
    (list : List Node) : Type 0 where
  pub starts : (node : Node) × IsIn list node × Represents dead node start
  pub closed : (node : Node) (m : Move) (b : State) (event : Option Event) → IsIn list node
      → ClientStep way node.state m b event
      → (next : Node) × IsIn list next × Represents dead next b
      × IsAfterMove table b event node.monitor next.monitor

-- ---- laws

-- Where there is a closed list of nodes, and from each of them moves of open operations alone may
-- lead to where all of them are blocked, no unrolled matrix has a livelock. That holds whether or
-- not the table is that of the serial histories.
abbrev pub NodesNeverLivelock : Type 0
NodesNeverLivelock =
    (c : Component) (way : Way) (matrix : Matrix) (start : State) (dead : DeadTable)
    (table : Table) (list : List Node) →
    IsStart c (client_matrix way matrix) start → IsDeadTable c dead
    → AreAllNodes dead table way start list
    → ((node : Node) → IsIn list node → MayEnd way node.state)
    → NeverLivelocks c matrix way

-- Where moves lead to a node from which they may not, some unrolled matrix has a livelock by these
-- moves.
abbrev pub LostNodeLivelocks : Type 0
LostNodeLivelocks =
    (c : Component) (way : Way) (matrix : Matrix) (start : State) (dead : DeadTable)
    (table : Table) (first : Node) (u : List Move) (node : Node) →
    IsStart c (client_matrix way matrix) start → IsDeadTable c dead → Represents dead first start
    → MovesLead dead table way first u node → (MayEnd way node.state → ⊥)
    → HasLivelockBy c matrix way u

-- where no unrolled matrix has a livelock, no schedule is one
abbrev pub LivelocksNever : Type 0
LivelocksNever =
    (c : Component) (matrix : Matrix) (way : Way) (u : List Move) →
    NeverLivelocks c matrix way → HasLivelockBy c matrix way u → ⊥
