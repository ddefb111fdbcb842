-- Nodes that are reached by steps (lu_late): each call is made together with the first move of its
-- operation, and where threads are at left movers, the first of them moves.
use Rattle.std.specs.Prelude.{◌≡◌, Bool, ℕ, List, [], ◌∷◌, ◌++◌, Option}
use Rattle.lu_component.specs.Component.{Component}
use Rattle.lu_test.specs.declared.schedule.Move.{Move}
use Rattle.lu_test.specs.Matrix.{Matrix}
use Rattle.lu_machine.specs.declared.event.Event.{Event}
use Rattle.lu_machine.specs.Starts.{IsStart}
use Rattle.lu_machine.specs.States.{State}
use Rattle.lu_machine.specs.Steps.{picks_of}
use Rattle.lu_horizon.specs.Dead.{DeadTable, IsDeadTable}
use Rattle.lu_graph.specs.Guards.{TellsGuarded}
use Rattle.lu_late.specs.Steps.{IsIdle, IsOneStep}
use Rattle.lu_linearization.specs.declared.configuration.Configuration.{Configuration as Shown}
use Rattle.lu_linearization.specs.Monitors.{CanBeStuck}
use Rattle.lu_client.specs.Alone.{rest_of}
use Rattle.lu_client.specs.Clients.{AllBlocked, ClientStep, client_matrix}
use Rattle.lu_client.specs.Rounds.{IsUnrolledFrom, Way}
use Rattle.lu_client.specs.Rounds.Way.{InOrder}
use Rattle.lu_client.specs.Stages.{IsIn}
use Rattle.lu_answers.specs.Tables.{Goes, IsTableOf, Table}
use Rattle.lu_always.specs.Always.{FailsBy, HasSpec, IsAlwaysLinearizable}
use Rattle.lu_always.specs.Nodes.{IsAfterMove, IsFirst, IsGoodNode, IsWithin, MovesLead, Node, Represents}

-- the move is the call of an idle thread, and the operation is blocked at once
abbrev pub IsBlockedCall : Way → State → Move → Type 0
IsBlockedCall way s m =
    IsIdle s m.thread
    × ((b : State) × (event : Option Event) × ClientStep way s m b event
    × (picks_of b m.thread ≡ 0))

-- The node is good, and each call that would be blocked at once can be stuck. The monitor before the
-- call suffices: the configurations after it in which nothing has taken effect are those from before.
pub record IsGoodBeforeCalls (table : Table) (way : Way) (node : Node) : Type 0 where
  pub good : IsGoodNode table node
  pub next : (m : Move) → IsBlockedCall way node.state m
      → CanBeStuck (Goes table) m.thread node.monitor

-- Wherever these moves lead from state s, the list has a node. Its configurations are among those of
-- the monitor after the moves: a node with fewer linearizations stands for one with more.
abbrev pub HasNodeAfter : DeadTable → Table → Way → List Node → State → List Move → List Shown
    → Type 0
HasNodeAfter dead table way list s [] monitor =
    (node : Node) × IsIn list node × Represents dead node s × IsWithin node.monitor monitor
HasNodeAfter dead table way list s (m ∷ u) monitor =
    (b : State) (event : Option Event) → ClientStep way s m b event
    → (after : List Shown) × IsAfterMove table b event monitor after
    × HasNodeAfter dead table way list b u after

-- A list of nodes with the first one, and with all nodes to which steps lead. Each node in which all
-- open operations are blocked is good before last calls.
pub record AreStepNodes (dead : DeadTable) (table : Table) (way : Way) (start : State)
    (list : List Node) : Type 0 where
  pub starts : (node : Node) × IsIn list node × IsFirst dead start node
  pub closed : (node : Node) (step : List Move) → IsIn list node → IsOneStep node.state step
      → HasNodeAfter dead table way list node.state step node.monitor
  pub good : (node : Node) → IsIn list node → AllBlocked node.state
      → IsGoodBeforeCalls table way node

-- ---- laws

-- Where there are a table of the serial histories and such a list of nodes, each unrolled matrix is
-- linearizable.
abbrev pub StepNodesTellAll : Type 0
StepNodesTellAll =
    (c : Component) (way : Way) (matrix : Matrix) (bound : ℕ) (start : State)
    (dead : DeadTable) (table : Table) (guarded : List Bool) (list : List Node) →
    IsStart c (client_matrix way matrix) start → IsDeadTable c dead → TellsGuarded c guarded
    → IsTableOf c way matrix bound (rest_of start) table
    → AreStepNodes dead table way start list
    → IsAlwaysLinearizable c matrix way bound

-- So each of them has a deterministic specification.
abbrev pub StepNodesServeAll : Type 0
StepNodesServeAll =
    (c : Component) (way : Way) (matrix : Matrix) (bound : ℕ) (start : State)
    (dead : DeadTable) (table : Table) (guarded : List Bool) (list : List Node)
    (big : Matrix) →
    IsStart c (client_matrix way matrix) start → IsDeadTable c dead → TellsGuarded c guarded
    → IsTableOf c way matrix bound (rest_of start) table
    → AreStepNodes dead table way start list → IsUnrolledFrom way matrix big → HasSpec c big

-- Where moves lead to a node in which all open operations are blocked, and a call that would be
-- blocked at once cannot be stuck, some unrolled matrix fails by these moves and the call. (Where the
-- node itself is not good, it fails by these moves alone: `BadNodeFails`.)
abbrev pub BlockedCallFails : Type 0
BlockedCallFails =
    (c : Component) (rounds : Option ℕ) (matrix : Matrix) (bound : ℕ) (start : State)
    (dead : DeadTable) (table : Table) (first : Node) (u : List Move) (node : Node)
    (m : Move) →
    IsStart c (client_matrix (InOrder rounds) matrix) start → IsDeadTable c dead
    → IsTableOf c (InOrder rounds) matrix bound (rest_of start) table → IsFirst dead start first
    → MovesLead dead table (InOrder rounds) first u node → AllBlocked node.state
    → IsBlockedCall (InOrder rounds) node.state m
    → (CanBeStuck (Goes table) m.thread node.monitor → ⊥)
    → FailsBy c matrix (InOrder rounds) (u ++ m ∷ [])
