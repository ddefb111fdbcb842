-- Nodes as they are stored, and a search of all nodes.
use Rattle.std.specs.Prelude.{◌≡◌, ◌⊎◌, ℕ, ◌<◌, List, [], ◌∷◌, ◌++◌, Option, Some, None, slice_get}
use Rattle.std.specs.Global.{Vec}
use Rattle.std.specs.Option.{option_map_or}
use Rattle.lu_component.specs.Component.{Component}
use Rattle.lu_test.specs.declared.schedule.Move.{Move}
use Rattle.lu_test.specs.Matrix.{Matrix}
use Rattle.lu_machine.specs.declared.event.Event.{Event}
use Rattle.lu_machine.specs.declared.thread.Thread.{Thread}
use Rattle.lu_machine.specs.States.{State}
use Rattle.lu_horizon.specs.Dead.{DeadTable}
use Rattle.lu_serial.specs.Serial.{HasOpen}
use Rattle.lu_linearization.specs.declared.configuration.Configuration.{Configuration as Shown}
use Rattle.lu_linearization.specs.Monitors.{CanBeStuck}
use Rattle.lu_client.specs.Rounds.Way.{InOrder}
use Rattle.lu_client.specs.Clients.{ClientStep, around}
use Rattle.lu_client.specs.Stages.{IsIn, Stage}
use Rattle.lu_always.specs.declared.given.Given.{Given}
use Rattle.lu_always.specs.declared.stored.Arrival.{Arrival}
use Rattle.lu_always.specs.Stored.{CanStandAtStored, StoredNode, at_stored}
use Rattle.lu_always.specs.declared.verdicts.Verdict.{Verdict}
use Rattle.lu_always.specs.declared.verdicts.Verdict.TheVariants.{AlwaysLinearizable, Fails, Livelock, Undecided}
use Rattle.lu_always.specs.Clearing.{IsCleared}
use Rattle.lu_always.specs.Exits.{AreExits, MovesTo}
use Rattle.lu_always.specs.Livelocks.{HasLivelockBy, NeverLivelocks}
use Rattle.lu_always.specs.Sinks.{Graph}
use Rattle.lu_always.specs.Nodes.{IsAfterMove, IsWithin, MovesLead, Node, Represents}
use Rattle.lu_always.specs.Always.{FailsBy, IsAlwaysLinearizable}
use Rattle.lu_answers.specs.declared.rounds.Rounds.{Rounds}
use Rattle.lu_answers.specs.Ways.{way_of}
use Rattle.lu_answers.specs.Tables.{Goes, IsTableFrom, Rows, table_of}

-- a move of the client
abbrev pub RoundStep : Rounds → State → Move → State → Option Event → Type 0
RoundStep rounds s m new event = ClientStep (way_of rounds) s m new event

-- the threads after each that has made the last call of its line is before the first one again
abbrev pub threads_around : State → List Thread
threads_around s = (around (InOrder None) s).threads

-- the monitor after a move that leads the client to state s, with this event or none
abbrev pub MonitorAfter : Rows → State → Option Event → List Shown → List Shown → Type 0
MonitorAfter rows s event old new = IsAfterMove (table_of [] rows) s event old new

-- thread t has no open operation in state s, or one that can be stuck
abbrev pub CanBeStuckIfOpen : Rows → State → List Shown → ℕ → Type 0
CanBeStuckIfOpen rows s monitor t =
    HasOpen s t → CanBeStuck (Goes (table_of [] rows)) t monitor

-- each open operation can be stuck
abbrev pub AllCanBeStuck : Rows → State → List Shown → Type 0
AllCanBeStuck rows s monitor = (t : ℕ) → CanBeStuckIfOpen rows s monitor t

-- the node that is stored, where the component and the matrix are those of s
abbrev pub node_of : State → StoredNode → Node
node_of s stored = record { state = at_stored s stored.position; monitor = stored.monitor }

-- the node of this state and this monitor
abbrev pub node_at : State → List Shown → Node
node_at s monitor = record { state = s; monitor = monitor }

-- it is this node that is stored
abbrev pub IsStoredFor : Node → StoredNode → Type 0
IsStoredFor node stored =
    (at_stored node.state stored.position ≡ node.state) × (stored.monitor ≡ node.monitor)

-- it has the state of the node, and no configuration that the node does not have
abbrev pub StandsFor : StoredNode → Node → Type 0
StandsFor stored node =
    (at_stored node.state stored.position ≡ node.state) × IsWithin stored.monitor node.monitor

-- what is stored at this index stands for the node
abbrev pub IsCoveredAt : List StoredNode → ℕ → Node → Type 0
IsCoveredAt all index node =
    (stored : StoredNode) × (slice_get all index ≡ Some stored) × StandsFor stored node

-- it stands for the node of this state and this monitor
abbrev pub IsCoveredOf : State → List Shown → List StoredNode → ℕ → Type 0
IsCoveredOf s monitor all index = IsCoveredAt all index (node_at s monitor)

-- a machine with the component and the matrix of s can stand at each stored node
abbrev pub AllCanStand : State → List StoredNode → Type 0
AllCanStand s all =
    (stored : StoredNode) → IsIn all stored → CanStandAtStored s.component s.matrix stored.position

-- The old nodes stay, and others may come after them. Machines can stand there too.
pub record Grows (s : State) (old new : List StoredNode) : Type 0 where
  pub more : List StoredNode
  pub parts : new ≡ old ++ more
  pub stand : AllCanStand s old → AllCanStand s new

-- the configurations are among those of the monitor after a move that leads the client to state s
abbrev pub WithinAfter : Rows → State → Option Event → List Shown → List Shown → Type 0
WithinAfter rows s event old less =
    (after : List Shown) × MonitorAfter rows s event old after × IsWithin less after

-- The list has a node for the state to which the move leads from this one, if it leads anywhere. Its
-- configurations are among those of the monitor after the move.
abbrev pub HasNext : DeadTable → Rounds → Rows → List StoredNode → Node → Move → Type 0
HasNext dead rounds rows all node m =
    (b : State) (event : Option Event) → RoundStep rounds node.state m b event
    → (stored : StoredNode) × IsIn all stored × Represents dead (node_of node.state stored) b
    × WithinAfter rows b event node.monitor stored.monitor

-- the same for the node of this state and this monitor
abbrev pub HasNextOf : DeadTable → Rounds → Rows → State → List Shown → Move → List StoredNode
    → Type 0
HasNextOf dead rounds rows s monitor m all = HasNext dead rounds rows all (node_at s monitor) m

-- the moves of the arrival: the call, if it has one, and the move after it
abbrev pub moves_of : Arrival → List Move
moves_of a = option_map_or (λ call. call ∷ a.by ∷ []) a.call (a.by ∷ [])

-- these moves lead from one node to the other
abbrev pub Leads : DeadTable → Rounds → Rows → Node → List Move → Node → Type 0
Leads dead rounds rows node u end = MovesLead dead (table_of [] rows) (way_of rounds) node u end

-- the stored node was reached from this one, which is stored at this index
abbrev pub ComesFrom : DeadTable → Rounds → Rows → State → ℕ → Node → StoredNode → Type 0
ComesFrom dead rounds rows s index node stored =
    (a : Arrival) × (stored.arrival ≡ Some a) × (a.parent ≡ index)
    × Leads dead rounds rows node (moves_of a) (node_of s stored)

-- each new node was reached from this one, which is stored at this index
abbrev pub AddsFrom : DeadTable → Rounds → Rows → State → ℕ → Node → List StoredNode
    → List StoredNode → Type 0
AddsFrom dead rounds rows s index node old new =
    (stored : StoredNode) → IsIn new stored
    → IsIn old stored ⊎ ComesFrom dead rounds rows s index node stored

-- the same from the node of this state and this monitor
abbrev pub Adds : DeadTable → Rounds → Rows → State → List Shown → ℕ → List StoredNode
    → List StoredNode → Type 0
Adds dead rounds rows s monitor index old new =
    AddsFrom dead rounds rows s index (node_at s monitor) old new

-- the move of the arrival leads to each new node from the node of this state and this monitor
abbrev pub AddsBy : DeadTable → Rounds → Rows → State → List Shown → Arrival → List StoredNode
    → List StoredNode → Type 0
AddsBy dead rounds rows s monitor a old new =
    (stored : StoredNode) → IsIn new stored
    → IsIn old stored
    ⊎ ((stored.arrival ≡ Some a)
    × Leads dead rounds rows (node_at s monitor) (a.by ∷ []) (node_of s stored))

-- Each node of the new list is one of the old, or that of this state and this monitor, with this
-- arrival.
abbrev pub AddsOnly : State → List Shown → Option Arrival → List StoredNode → List StoredNode
    → Type 0
AddsOnly s monitor arrival old new =
    (stored : StoredNode) → IsIn new stored
    → IsIn old stored ⊎ (IsStoredFor (node_at s monitor) stored × (stored.arrival ≡ arrival))

-- A move with this event, or with none, has led from this monitor to state s. What is stored at the
-- index stands for the node after it, with 0 in dead registers. No other node than this is added.
pub record StoresAfter (dead : DeadTable) (rows : Rows) (s : State) (event : Option Event)
    (monitor : List Shown) (arrival : Arrival) (cleared : State) (old new : List StoredNode)
    (index : ℕ) : Type 0 where
  pub after : List Shown
  pub follows : MonitorAfter rows s event monitor after
  pub clear : IsCleared dead s cleared
  pub grows : Grows cleared old new
  pub there : IsCoveredAt new index (node_at cleared after)
  pub only : AddsOnly cleared after (Some arrival) old new

-- the property holds of the node stored at this index
abbrev pub HoldsOf : State → List StoredNode → ℕ → (Node → Type 0) → Type 0
HoldsOf s all i P = (stored : StoredNode) → slice_get all i ≡ Some stored → P (node_of s stored)

-- each new node was reached from the one stored at this index
abbrev pub AddsAt : DeadTable → Rounds → Rows → State → ℕ → List StoredNode → List StoredNode
    → Type 0
AddsAt dead rounds rows s index old new =
    HoldsOf s old index (λ node. AddsFrom dead rounds rows s index node old new)

-- the node stored at this index was reached so: it is the first one, with this monitor; or it was
-- reached from a node that is stored before it
abbrev pub IsArrival : DeadTable → Rounds → Rows → List Shown → State → List StoredNode → ℕ
    → StoredNode → Option Arrival → Type 0
IsArrival dead rounds rows first s all index stored None = IsStoredFor (node_at s first) stored
IsArrival dead rounds rows first s all index stored (Some a) =
    (a.parent < index)
    × (parent : StoredNode) × (slice_get all a.parent ≡ Some parent)
    × Leads dead rounds rows (node_of s parent) (moves_of a) (node_of s stored)

-- each node was reached by its arrival
abbrev pub AreArrivals : DeadTable → Rounds → Rows → List Shown → State → List StoredNode → Type 0
AreArrivals dead rounds rows first s all =
    (i : ℕ) (stored : StoredNode) → slice_get all i ≡ Some stored
    → IsArrival dead rounds rows first s all i stored stored.arrival

-- these are the exits of the first nodes, one list for each
abbrev pub AreExitsOfFirst : DeadTable → Rounds → State → List StoredNode → Graph → Type 0
AreExitsOfFirst dead rounds s all exits =
    (i : ℕ) (its : Vec ℕ) → slice_get exits i ≡ Some its
    → HoldsOf s all i (λ node. AreExits dead rounds all its.items node.state)

-- all unrolled matrices are linearizable, if the rows are the table of the serial histories
abbrev pub IsLinearizableBy : Component → Rounds → Matrix → Rows → Type 0
IsLinearizableBy c rounds matrix rows =
    (stages : List Stage) (bound : ℕ) →
    IsTableFrom c rounds matrix rows stages bound
    → IsAlwaysLinearizable c matrix (way_of rounds) bound

-- Whether all unrolled matrices are linearizable, or a schedule of one that fails, if the rows are
-- the table of the serial histories. Where all are, whether none has a livelock, or a schedule that
-- is one: that does not depend on the rows.
abbrev pub IsVerdict : Component → Rounds → Matrix → Rows → Verdict → Type 0
IsVerdict c rounds matrix rows AlwaysLinearizable =
    IsLinearizableBy c rounds matrix rows × NeverLivelocks c matrix (way_of rounds)
IsVerdict c rounds matrix rows (Fails moves) =
    (stages : List Stage) (bound : ℕ) →
    IsTableFrom c rounds matrix rows stages bound → FailsBy c matrix (way_of rounds) moves.items
IsVerdict c rounds matrix rows (Livelock moves) =
    IsLinearizableBy c rounds matrix rows × HasLivelockBy c matrix (way_of rounds) moves.items
IsVerdict c rounds matrix rows Undecided = Unit {0}

-- ---- by what a search is given

abbrev pub HasNextBy : Given → State → List Shown → Move → List StoredNode → Type 0
HasNextBy given s monitor m all =
    HasNextOf given.dead.now given.rounds given.table.now s monitor m all

abbrev pub StoresAfterBy : Given → State → Option Event → List Shown → Arrival → State
    → List StoredNode → List StoredNode → ℕ → Type 0
StoresAfterBy given s event monitor arrival cleared old new index =
    StoresAfter given.dead.now given.table.now s event monitor arrival cleared old new index

abbrev pub AddsByOf : Given → State → List Shown → Arrival → List StoredNode → List StoredNode
    → Type 0
AddsByOf given s monitor a old new =
    AddsBy given.dead.now given.rounds given.table.now s monitor a old new

abbrev pub AddsOf : Given → State → List Shown → ℕ → List StoredNode → List StoredNode → Type 0
AddsOf given s monitor index old new =
    Adds given.dead.now given.rounds given.table.now s monitor index old new

abbrev pub MovesToBy : Given → State → Move → List StoredNode → ℕ → Type 0
MovesToBy given s m all index = MovesTo given.dead.now given.rounds all s m index

abbrev pub AddsAtBy : Given → State → ℕ → List StoredNode → List StoredNode → Type 0
AddsAtBy given s index old new =
    AddsAt given.dead.now given.rounds given.table.now s index old new
