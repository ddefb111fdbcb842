-- A search of nodes by steps (lu_late).
use Rattle.std.specs.Global.{Vec}
use Rattle.std.specs.Prelude.{◌≡◌, ◌⊎◌, ℕ, ◌<◌, List, [], ◌∷◌, Option, Some, None}
use Rattle.lu_component.specs.Component.{Component}
use Rattle.lu_test.specs.declared.schedule.Move.{Move}
use Rattle.lu_test.specs.Matrix.{Matrix}
use Rattle.lu_machine.specs.declared.event.Event.{Event}
use Rattle.lu_machine.specs.States.{State}
use Rattle.lu_machine.specs.Steps.{IsFeasible}
use Rattle.lu_graph.specs.First.{GoesFirst}
use Rattle.lu_horizon.specs.Dead.{DeadTable}
use Rattle.lu_late.specs.Steps.{IsIdle}
use Rattle.lu_linearization.specs.declared.configuration.Configuration.{Configuration as Shown}
use Rattle.lu_linearization.specs.Monitors.{AreInitial, CanBeStuck}
use Rattle.lu_client.specs.Clients.{AllBlocked}
use Rattle.lu_client.specs.Stages.{IsIn}
use Rattle.lu_answers.specs.declared.rounds.Rounds.{Rounds}
use Rattle.lu_answers.specs.Tables.{Goes, Rows, table_of}
use Rattle.lu_answers.specs.Ways.{way_of}
use Rattle.lu_always.specs.declared.given.Given.{Given}
use Rattle.lu_always.specs.declared.judging.Judged.{Judged}
use Rattle.lu_always.specs.declared.judging.Judged.TheVariants.{BadAfterCall, Bad, Good}
use Rattle.lu_always.specs.declared.steps.Origin.{Origin}
use Rattle.lu_always.specs.declared.stored.Arrival.{Arrival}
use Rattle.lu_always.specs.declared.steps.Visited.{Visited}
use Rattle.lu_always.specs.declared.steps.Visited.TheVariants.{Exits, Fails}
use Rattle.lu_always.specs.declared.verdicts.Verdict.{Verdict}
use Rattle.lu_always.specs.Stored.{HasMonitorAt, StoredNode}
use Rattle.lu_always.specs.Exits.{AreExits, AreExitsOf, AreReachedBy}
use Rattle.lu_always.specs.Nodes.{IsGoodNode, Node}
use Rattle.lu_always.specs.Searching.{AllCanStand, AreArrivals, HasNext, HoldsOf, IsStoredFor, IsVerdict, Leads, MonitorAfter, RoundStep, node_at, node_of}
use Rattle.lu_always.specs.Steps.{IsBlockedCall, IsGoodBeforeCalls}

-- ---- judging

-- the call of this move would be blocked at once, and cannot be stuck
abbrev pub IsBadCall : Rounds → Rows → Node → Move → Type 0
IsBadCall rounds rows node m =
    IsBlockedCall (way_of rounds) node.state m
    × (CanBeStuck (Goes (table_of [] rows)) m.thread node.monitor → ⊥)

-- if it would be blocked at once, it can be stuck
abbrev pub IsFineCall : Rounds → Rows → Node → Move → Type 0
IsFineCall rounds rows node m =
    IsBlockedCall (way_of rounds) node.state m
    → CanBeStuck (Goes (table_of [] rows)) m.thread node.monitor

-- each call is so
abbrev pub AllCallsAreFine : Rounds → Rows → Node → Type 0
AllCallsAreFine rounds rows node = (m : Move) → IsFineCall rounds rows node m

-- where the open operations of the node are blocked, it is good before last calls; or it is bad; or
-- it is after this call
abbrev pub IsJudged : Rounds → Rows → Node → Judged → Type 0
IsJudged rounds rows node Good =
    AllBlocked node.state → IsGoodBeforeCalls (table_of [] rows) (way_of rounds) node
IsJudged rounds rows node Bad =
    AllBlocked node.state × (IsGoodNode (table_of [] rows) node → ⊥)
IsJudged rounds rows node (BadAfterCall m) =
    AllBlocked node.state × IsBadCall rounds rows node m

-- of each stored node at this index
abbrev pub IsJudgedIn : Rounds → Rows → State → List StoredNode → ℕ → Judged → Type 0
IsJudgedIn rounds rows s all index judged =
    HoldsOf s all index (λ node. IsJudged rounds rows node judged)

-- ---- steps

-- the origin is a node with this monitor; or a call was made first
abbrev pub IsFromMonitor : List StoredNode → List Shown → Origin → Type 0
IsFromMonitor all monitor origin = origin.call ≡ None → HasMonitorAt all origin.index monitor

-- the list has nodes for the states to which thread t's moves lead from this one
abbrev pub HasMoves : DeadTable → Rounds → Rows → List StoredNode → Node → ℕ → Type 0
HasMoves dead rounds rows all node t =
    (m : Move) → m.thread ≡ t → HasNext dead rounds rows all node m

-- the list has nodes for the states to which the call m leads from this one, with each move of its
-- thread after it
abbrev pub HasCall : DeadTable → Rounds → Rows → List StoredNode → Node → Move → Type 0
HasCall dead rounds rows all node m =
    (b : State) (event : Option Event) → RoundStep rounds node.state m b event
    → (after : List Shown) × MonitorAfter rows b event node.monitor after
    × HasMoves dead rounds rows all (node_at b after) m.thread

-- the list has nodes for the states to which thread t's steps lead from this one: its moves, if it is
-- not idle; and else its next call, with each move after it
pub record HasStepsOf (dead : DeadTable) (rounds : Rounds) (rows : Rows)
    (all : List StoredNode) (node : Node) (t : ℕ) : Type 0 where
  pub moves : (IsIdle node.state t → ⊥) → HasMoves dead rounds rows all node t
  pub calls : (m : Move) → m.thread ≡ t → IsIdle node.state t
      → HasCall dead rounds rows all node m

-- the list has nodes for the states to which steps lead from this one
abbrev pub HasSteps : DeadTable → Rounds → Rows → List StoredNode → Node → Type 0
HasSteps dead rounds rows all node =
    (m : Move) → IsFeasible node.state m → GoesFirst node.state m
    → HasStepsOf dead rounds rows all node m.thread

-- each new node was reached by a move of its arrival from the node of this state and this monitor,
-- which are those of the origin
abbrev pub AddsMoves : DeadTable → Rounds → Rows → State → List Shown → Origin → List StoredNode
    → List StoredNode → Type 0
AddsMoves dead rounds rows s monitor origin old new =
    (stored : StoredNode) → IsIn new stored
    → IsIn old stored
    ⊎ ((a : Arrival) × (stored.arrival ≡ Some a) × (a.parent ≡ origin.index)
    × (a.call ≡ origin.call)
    × Leads dead rounds rows (node_at s monitor) (a.by ∷ []) (node_of s stored))

-- The list has the first node, and each node was reached by its arrival. The nodes before this index
-- are searched: the list has nodes for the states to which steps lead from them, and where their open
-- operations are blocked, they are good before last calls.
pub record AreStepped (dead : DeadTable) (rounds : Rounds) (rows : Rows) (first : List Shown)
    (s : State) (index : ℕ) (all : List StoredNode) : Type 0 where
  pub starts : (stored : StoredNode) × IsIn all stored × IsStoredFor (node_at s first) stored
  pub stand : AllCanStand s all
  pub arrivals : AreArrivals dead rounds rows first s all
  pub closed : (i : ℕ) → i < index → HoldsOf s all i (HasSteps dead rounds rows all)
  pub good : (i : ℕ) → i < index → IsJudgedIn rounds rows s all i Good

-- What the visit of the node at this index finds: it is good, the new list has nodes for the states to
-- which steps lead from it, and these are its exits; or it is not good; or it is not after this call.
abbrev pub IsStepVisit : DeadTable → Rounds → Rows → State → List StoredNode → ℕ
    → List StoredNode → Visited → Type 0
IsStepVisit dead rounds rows s old index new (Exits exits) =
    IsJudgedIn rounds rows s old index Good
    × HoldsOf s old index (HasSteps dead rounds rows new)
    × HoldsOf s old index (λ node. AreExits dead rounds new exits.items node.state)
IsStepVisit dead rounds rows s old index new (Fails None) = IsJudgedIn rounds rows s old index Bad
IsStepVisit dead rounds rows s old index new (Fails (Some m)) =
    IsJudgedIn rounds rows s old index (BadAfterCall m)

-- ---- by what a search is given

-- thread t has a next call, which would be blocked at once, and cannot be stuck
abbrev pub IsBadCallOf : Given → State → List Shown → ℕ → Type 0
IsBadCallOf given s monitor t =
    IsBadCall given.rounds given.table.now (node_at s monitor) (record { thread = t; pick = 0 })

-- if it would be blocked at once, it can be stuck
abbrev pub IsFineCallOf : Given → State → List Shown → ℕ → Type 0
IsFineCallOf given s monitor t =
    IsFineCall given.rounds given.table.now (node_at s monitor) (record { thread = t; pick = 0 })

-- this call would be blocked at once, and cannot be stuck; or there is none
abbrev pub IsFirstBadCall : Given → State → List Shown → Option Move → Type 0
IsFirstBadCall given s monitor None =
    AllCallsAreFine given.rounds given.table.now (node_at s monitor)
IsFirstBadCall given s monitor (Some m) =
    IsBadCall given.rounds given.table.now (node_at s monitor) m

abbrev pub IsJudgedAt : Given → State → List Shown → Judged → Type 0
IsJudgedAt given s monitor judged =
    IsJudged given.rounds given.table.now (node_at s monitor) judged

abbrev pub HasMovesBy : Given → State → List Shown → ℕ → List StoredNode → Type 0
HasMovesBy given s monitor t all =
    HasMoves given.dead.now given.rounds given.table.now all (node_at s monitor) t

abbrev pub HasCallBy : Given → State → List Shown → Move → List StoredNode → Type 0
HasCallBy given s monitor m all =
    HasCall given.dead.now given.rounds given.table.now all (node_at s monitor) m

abbrev pub HasStepsBy : Given → State → List Shown → ℕ → List StoredNode → Type 0
HasStepsBy given s monitor t all =
    HasStepsOf given.dead.now given.rounds given.table.now all (node_at s monitor) t

abbrev pub HasAllStepsBy : Given → State → List Shown → List StoredNode → Type 0
HasAllStepsBy given s monitor all =
    HasSteps given.dead.now given.rounds given.table.now all (node_at s monitor)

abbrev pub AddsMovesBy : Given → State → List Shown → Origin → List StoredNode → List StoredNode
    → Type 0
AddsMovesBy given s monitor origin old new =
    AddsMoves given.dead.now given.rounds given.table.now s monitor origin old new

abbrev pub AreReachedByThread : Given → State → ℕ → List StoredNode → Vec ℕ → Type 0
AreReachedByThread given s t all indexes =
    AreReachedBy t given.dead.now given.rounds all indexes.items s

abbrev pub AreExitsByThread : Given → State → ℕ → List StoredNode → Vec ℕ → Type 0
AreExitsByThread given s t all exits =
    AreExitsOf t given.dead.now given.rounds all exits.items s

abbrev pub AreExitsBy : Given → State → List StoredNode → Vec ℕ → Type 0
AreExitsBy given s all exits = AreExits given.dead.now given.rounds all exits.items s

abbrev pub IsStepVisitBy : Given → State → List StoredNode → ℕ → List StoredNode → Visited
    → Type 0
IsStepVisitBy given s old index new visited =
    IsStepVisit given.dead.now given.rounds given.table.now s old index new visited

-- the first node is stored, and none is searched yet
abbrev pub IsBegunBy : Given → State → List StoredNode → Type 0
IsBegunBy given s all =
    (first : List Shown) × AreInitial 0 first
    × AreStepped given.dead.now given.rounds given.table.now first s 0 all

abbrev pub IsVerdictBy : Given → Component → Matrix → Verdict → Type 0
IsVerdictBy given c matrix verdict = IsVerdict c given.rounds matrix given.table.now verdict
