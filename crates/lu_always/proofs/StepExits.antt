-- What a search by steps tells of livelocks.
use Rattle.std.proofs.Common.{arith, ◌≡◌, ℕ, ◌≤◌, Bool, List, [], length, map, None, Some, sym, subst}
use Rattle.std.specs.Global.{Vec}
use Rattle.std.proofs.lemmas.Option.{slice_get_within}
use Rattle.lu_component.specs.Component.{Component}
use Rattle.lu_test.specs.declared.schedule.Move.{Move}
use Rattle.lu_test.specs.Matrix.{Matrix}
use Rattle.lu_machine.specs.States.{State}
use Rattle.lu_machine.specs.Starts.{IsStart}
use Rattle.lu_machine.proofs.Starting.{start_component}
use Rattle.lu_horizon.specs.Dead.{DeadTable, IsDeadTable}
use Rattle.lu_graph.specs.Guards.{TellsGuarded}
use Rattle.lu_linearization.specs.declared.configuration.Configuration.{Configuration as Shown}
use Rattle.lu_linearization.specs.Monitors.{AreInitial}
use Rattle.lu_client.specs.Clients.{client_matrix}
use Rattle.lu_client.proofs.OneCalls.{within_some}
use Rattle.lu_answers.specs.declared.rounds.Rounds.{Rounds}
use Rattle.lu_answers.specs.Tables.{Rows, table_of}
use Rattle.lu_answers.specs.Ways.{way_of}
use Rattle.lu_answers.proofs.Lines.{same_matrix}
use Rattle.lu_always.specs.Livelocks.{HasLivelockBy, NeverLivelocks}
use Rattle.lu_always.specs.Nodes.{Node}
use Rattle.lu_always.specs.Searching.{AreExitsOfFirst, node_of}
use Rattle.lu_always.specs.Sinks.{Graph, IsFirstWithoutSink}
use Rattle.lu_always.specs.StepLivelocks.{MayEndBySteps}
use Rattle.lu_always.specs.StepSearch.{AreStepped}
use Rattle.lu_always.specs.Stored.{StoredNode}
use Rattle.lu_always.specs.Ways.{IsWayToLivelock}
use Rattle.lu_always.proofs.Exiting.{may_end_sink, sink_may_end}
use Rattle.lu_always.proofs.Keeping.{from, way_there}
use Rattle.lu_always.proofs.StepEndings.{lost_step_node_livelocks, step_nodes_never_livelock}
use Rattle.lu_always.proofs.StepsTold.{step_nodes}

module _ (c : Component) (dead : DeadTable) (sound : IsDeadTable c dead) (rounds : Rounds) (matrix : Matrix) (rows : Rows) (first : List Shown) (s : State) (is : IsStart c matrix s) (initial : AreInitial 0 first) (guarded : List Bool) (told : TellsGuarded c guarded) (place : ℕ) (all : List StoredNode) (past : length all ≤ place) (are : AreStepped dead rounds rows first s place all) (exits : Graph) (many : length exits ≡ length all) (each : AreExitsOfFirst dead rounds s all exits) where
  is_client : IsStart c (client_matrix (way_of rounds) matrix) s
  is_client = subst (λ (m : Matrix). IsStart c m s) (sym (same_matrix rounds matrix)) is

  is_of : s.component ≡ c
  is_of = start_component c matrix s is

  pub shows_never : IsFirstWithoutSink exits None → NeverLivelocks c matrix (way_of rounds)
  shows_never all_reach =
      step_nodes_never_livelock c (way_of rounds) matrix s dead (table_of [] rows) guarded (map (node_of s) all) is_client sound told (step_nodes dead rounds rows first s place all past are [] initial)
      (λ node among.
      (let f = from s all node among in
      let lt = slice_get_within all f.i f.kept f.at in
      subst (λ (x : Node). MayEndBySteps (way_of rounds) x.state) f.is_node
      (sink_may_end c dead sound rounds guarded told s is_of all exits each many f.i f.kept f.at (all_reach f.i (omega (arith, lt, many))))))

  pub shows_livelock : (moves : Vec Move) → IsWayToLivelock all exits (Some moves) → HasLivelockBy c matrix (way_of rounds) moves.items
  shows_livelock moves (index, lost, to) =
      let lt = lost.0 in
      let kept = within_some all index (omega (arith, lt, many)) in
      let way = way_there dead rounds rows first s all are.arrivals index moves.items to kept.0 kept.1 in
      lost_step_node_livelocks c (way_of rounds) matrix s dead (table_of [] rows) guarded way.first moves.items (node_of s kept.0) is_client sound told (way.state, subst (AreInitial 0) (sym way.monitor) initial) way.lead
      (λ may. lost.1 (may_end_sink c dead sound rounds guarded told s is_of all exits each many index kept.0 kept.1 may))
