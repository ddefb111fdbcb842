-- Nodes: states of the client, each with a monitor. `Shown` is the struct of a configuration.
use Rattle.std.specs.Prelude.{◌≡◌, ◌≢◌, Bool, ℕ, List, [], ◌∷◌, Option, Some, None, if◌then◌else◌}
use Rattle.lu_component.specs.Component.{Component}
use Rattle.lu_test.specs.declared.schedule.Move.{Move}
use Rattle.lu_test.specs.Matrix.{Matrix}
use Rattle.lu_machine.specs.declared.event.Event.{Event}
use Rattle.lu_machine.specs.declared.event.Event.TheVariants.{Call, Return}
use Rattle.lu_machine.specs.States.{State, progress}
use Rattle.lu_machine.specs.Starts.{IsStart}
use Rattle.lu_horizon.specs.Dead.{DeadTable, IsDeadTable}
use Rattle.lu_history.specs.Parts.{as_serial}
use Rattle.lu_history.specs.Standing.{standing_of}
use Rattle.lu_serial.specs.Serial.{HasOpen}
use Rattle.lu_tree.specs.Alike.{AreAlike}
use Rattle.lu_linearization.specs.declared.configuration.Configuration.{Configuration as Shown}
use Rattle.lu_linearization.specs.Configurations.{Configuration, Returns}
use Rattle.lu_linearization.specs.Monitors.{AreClosed, AreInitial, AreNext, CanBeStuck, Holds}
use Rattle.lu_client.specs.Rounds.Way.{InOrder}
use Rattle.lu_client.specs.Alone.{rest_of}
use Rattle.lu_client.specs.Clients.{AllBlocked, ClientStep, client_matrix}
use Rattle.lu_client.specs.Rounds.{IsUnrolledFrom, Way}
use Rattle.lu_client.specs.Stages.{IsIn}
use Rattle.lu_always.specs.Always.{FailsBy, HasSpec, IsAlwaysLinearizable}
use Rattle.lu_answers.specs.Tables.{Goes, IsTableOf, Table}

-- a state of the client, and the configurations of the history so far
pub record Node : Type 0 where
  pub state : State
  pub monitor : List Shown

-- whether an operation of thread t is open
abbrev pub is_waiting : State → ℕ → Bool
is_waiting s t = (standing_of (progress s) t).1

-- the threads with open operations: in a table, the thread determines its next call
abbrev pub waits_in : State → ℕ → Option ℕ
waits_in s t = if is_waiting s t then Some t else None

-- the node represents this state of the client: they differ in dead registers only
abbrev pub Represents : DeadTable → Node → State → Type 0
Represents dead node s = AreAlike dead s node.state

-- each configuration of the first list is one of the second
abbrev pub IsWithin : List Shown → List Shown → Type 0
IsWithin less list = (c : Configuration ℕ) → Holds less c → Holds list c

-- before any move: the only configuration is the first stage, where nothing has taken effect
abbrev pub IsFirst : DeadTable → State → Node → Type 0
IsFirst dead start node =
    Represents dead node start
    × AreInitial 0 node.monitor

-- the monitor after an event that leads the client to state s
abbrev pub IsAfterEvent : Table → State → Event → List Shown → List Shown → Type 0
IsAfterEvent table s (Call t k) old new = AreClosed (Goes table) (waits_in s) t old new
IsAfterEvent table s (Return t k outcome) old new = AreNext (Returns t (as_serial outcome)) old new

-- the monitor after a move that leads the client to state s, with this event or none
abbrev pub IsAfterMove : Table → State → Option Event → List Shown → List Shown → Type 0
IsAfterMove table s None old new = new ≡ old
IsAfterMove table s (Some event) old new = IsAfterEvent table s event old new

-- the move leads from one node to the other, with this event or none
abbrev pub IsMove : DeadTable → Table → Way → Node → Move → Option Event → Node → Type 0
IsMove dead table way node m event next =
    (b : State) × ClientStep way node.state m b event × Represents dead next b
    × IsAfterMove table b event node.monitor next.monitor

-- Where no operation is open, the history has a linearization. Each open operation can be stuck.
pub record IsGoodNode (table : Table) (node : Node) : Type 0 where
  pub complete : ((t : ℕ) → HasOpen node.state t → ⊥) → node.monitor ≢ []
  pub stuck : (t : ℕ) → HasOpen node.state t → CanBeStuck (Goes table) t node.monitor

-- A list of nodes with the first one, and with all nodes to which moves lead. Each node in which all
-- open operations are blocked is good.
pub record AreNodes (dead : DeadTable) (table : Table) (way : Way) (start : State)
    (list : List Node) : Type 0 where
  pub starts : (node : Node) × IsIn list node × IsFirst dead start node
  pub closed : (node : Node) (m : Move) (b : State) (event : Option Event) → IsIn list node
      → ClientStep way node.state m b event
      → (next : Node) × IsIn list next × Represents dead next b
      × IsAfterMove table b event node.monitor next.monitor
  pub good : (node : Node) → IsIn list node → AllBlocked node.state → IsGoodNode table node

-- these moves lead from one node to the other
abbrev pub MovesLead : DeadTable → Table → Way → Node → List Move → Node → Type 0
MovesLead dead table way node [] end = end ≡ node
MovesLead dead table way node (m ∷ u) end =
    (next : Node) × (event : Option Event) × IsMove dead table way node m event next
    × MovesLead dead table way next u end

-- ---- laws

-- Where there are a table of the serial histories and such a list of nodes, each unrolled matrix is
-- linearizable.
abbrev pub NodesTellAll : Type 0
NodesTellAll =
    (c : Component) (way : Way) (matrix : Matrix) (bound : ℕ) (start : State)
    (dead : DeadTable) (table : Table) (list : List Node) →
    IsStart c (client_matrix way matrix) start → IsDeadTable c dead
    → IsTableOf c way matrix bound (rest_of start) table
    → AreNodes dead table way start list
    → IsAlwaysLinearizable c matrix way bound

-- So each of them has a deterministic specification.
abbrev pub NodesServeAll : Type 0
NodesServeAll =
    (c : Component) (way : Way) (matrix : Matrix) (bound : ℕ) (start : State)
    (dead : DeadTable) (table : Table) (list : List Node) (big : Matrix) →
    IsStart c (client_matrix way matrix) start → IsDeadTable c dead
    → IsTableOf c way matrix bound (rest_of start) table
    → AreNodes dead table way start list → IsUnrolledFrom way matrix big → HasSpec c big

-- Where moves lead to a node in which all open operations are blocked, and which is not good, some
-- unrolled matrix fails by these moves. Lines are made in order, so a move leads to one state only.
abbrev pub BadNodeFails : Type 0
BadNodeFails =
    (c : Component) (rounds : Option ℕ) (matrix : Matrix) (bound : ℕ) (start : State)
    (dead : DeadTable) (table : Table) (first : Node) (u : List Move) (node : Node) →
    IsStart c (client_matrix (InOrder rounds) matrix) start → IsDeadTable c dead
    → IsTableOf c (InOrder rounds) matrix bound (rest_of start) table → IsFirst dead start first
    → MovesLead dead table (InOrder rounds) first u node → AllBlocked node.state
    → (IsGoodNode table node → ⊥) → FailsBy c matrix (InOrder rounds) u

-- The empty table of dead registers is one for each component.
abbrev pub NoneDead : Type 0
NoneDead = (c : Component) → IsDeadTable c []
