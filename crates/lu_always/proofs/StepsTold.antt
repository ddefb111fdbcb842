-- What a search by steps tells of all unrolled matrices.
use Rattle.std.proofs.Common.{arith, ◌≡◌, ℕ, ◌<◌, ◌≤◌, Bool, List, [], ◌∷◌, length, map, Option, Some, None, slice_get, refl, sym, ◌∙◌, ap, subst}
use Rattle.std.specs.Global.{Vec}
use Rattle.std.proofs.lemmas.List.{append-nil}
use Rattle.std.proofs.lemmas.Option.{slice_get_within}
use Rattle.lu_component.specs.Component.{Component}
use Rattle.lu_test.specs.declared.schedule.Move.{Move}
use Rattle.lu_test.specs.Matrix.{Matrix}
use Rattle.lu_machine.specs.States.{State}
use Rattle.lu_machine.specs.Starts.{IsStart}
use Rattle.lu_horizon.specs.Dead.{DeadTable, IsDeadTable}
use Rattle.lu_tree.specs.Alike.{AreAlike}
use Rattle.lu_tree.proofs.Alike.{alike_itself}
use Rattle.lu_graph.specs.Guards.{TellsGuarded}
use Rattle.lu_late.specs.Steps.{IsOneStep}
use Rattle.lu_linearization.specs.declared.configuration.Configuration.{Configuration as Shown}
use Rattle.lu_linearization.specs.Monitors.{AreInitial}
use Rattle.lu_client.specs.Clients.{AllBlocked, client_matrix}
use Rattle.lu_client.specs.Stages.{Stage}
use Rattle.lu_answers.specs.declared.rounds.Rounds.{Rounds}
use Rattle.lu_answers.specs.Tables.{Rows, Table, table_of}
use Rattle.lu_answers.specs.Ways.{limit_of, way_of}
use Rattle.lu_answers.proofs.Lines.{same_matrix}
use Rattle.lu_always.specs.declared.judging.Judged.{Judged}
use Rattle.lu_always.specs.declared.judging.Judged.TheVariants.{Bad, BadAfterCall}
use Rattle.lu_always.specs.declared.steps.Visited.TheVariants.{Fails as Visits}
use Rattle.lu_always.specs.declared.verdicts.Verdict.TheVariants.{Fails}
use Rattle.lu_always.specs.Stored.{StoredNode, at_stored}
use Rattle.lu_always.specs.Always.{FailsBy}
use Rattle.lu_always.specs.Nodes.{IsGoodNode, Node}
use Rattle.lu_history.proofs.Events.{kept_at}
use Rattle.lu_client.proofs.OneCalls.{within_some}
use Rattle.lu_always.specs.Searching.{AddsAt, AreArrivals, Grows, HasNext, IsLinearizableBy, IsVerdict, node_at, node_of}
use Rattle.lu_always.specs.Steps.{AreStepNodes, HasNodeAfter, IsGoodBeforeCalls}
use Rattle.lu_always.specs.StepSearch.{AreStepped, HasSteps, IsJudged, IsJudgedIn, IsStepVisit}
use Rattle.lu_always.specs.Ways.{HasParentsBefore, IsWayTo, IsWayWith}
use Rattle.lu_always.proofs.Decided.{bad_node_fails}
use Rattle.lu_always.proofs.Exiting.{client_feasible}
use Rattle.lu_always.proofs.Keeping.{SameBase, WayFrom, after_any, arrivals_more, base_adds, base_at, base_node, from, moved_base, moves_any, parents_before, there, way_there}
use Rattle.lu_always.proofs.Stepped.{blocked_call_fails, step_nodes_tell_all}

-- what is good by the rows is good by any table of them
good_any : (stages others : List Stage) (rows : Rows) (node : Node) → IsGoodNode (table_of others rows) node → IsGoodNode (table_of stages rows) node
good_any stages others rows node good = record { complete = good.complete; stuck = good.stuck }

module _ (dead : DeadTable) (rounds : Rounds) (rows : Rows) (first : List Shown) (s : State) (place : ℕ) (all : List StoredNode) (past : length all ≤ place) (are : AreStepped dead rounds rows first s place all) (stages : List Stage) where
  abbrev table : Table
  table = table_of stages rows

  abbrev list : List Node
  list = map (node_of s) all

  -- the move leads to nodes of the list from this state, whose component and matrix are those of s
  after_move : (a : State) (monitor : List Shown) → ((kept : StoredNode) → at_stored a kept.position ≡ at_stored s kept.position) → (m : Move) → HasNext dead rounds rows all (node_at a monitor) m → HasNodeAfter dead table (way_of rounds) list a (m ∷ []) monitor
  after_move a monitor base m has b event step =
      let (kept, at, alike, (after, is, less)) = has b event step in (
        after,
        after_any stages [] rows b event monitor after is,
        (node_of s kept, there s all kept at, subst (AreAlike dead b) (base kept) alike, less),
      )

  after_step : (kept : StoredNode) (step : List Move) → HasSteps dead rounds rows all (node_of s kept) → IsOneStep (node_of s kept).state step → HasNodeAfter dead table (way_of rounds) list (node_of s kept).state step kept.monitor
  after_step kept [] has is = absurd is
  after_step kept (m ∷ []) has (busy, goes) = λ b event step.
      let can = client_feasible rounds (node_of s kept).state m b event step in
      after_move (node_of s kept).state kept.monitor (λ other. refl) m ((has m can goes).moves busy m refl) b event step
  after_step kept (m ∷ k ∷ []) has (rests, goes, same) = λ b event step.
      let can = client_feasible rounds (node_of s kept).state m b event step in
      let (after, is, moves) = (has m can goes).calls m refl rests b event step in (
        after,
        after_any stages [] rows b event kept.monitor after is,
        after_move b after (λ other. base_at (node_of s kept).state b other.position (moved_base rounds (node_of s kept).state m b event step)) k (moves k same),
      )
  after_step kept (m ∷ k ∷ l ∷ u) has is = absurd is

  pub step_nodes : AreInitial 0 first → AreStepNodes dead table (way_of rounds) s list
  step_nodes initial = record {
    starts = (node_of s are.starts.0, there s all are.starts.0 are.starts.1, (subst (AreAlike dead s) (sym are.starts.2.0) (alike_itself dead s), subst (AreInitial 0) (sym are.starts.2.1) initial));
    closed = λ node step at is.
        let f = from s all node at in
        let within = slice_get_within all f.i f.kept f.at in
        subst (λ (x : Node). HasNodeAfter dead table (way_of rounds) list x.state step x.monitor) f.is_node
        (after_step f.kept step (are.closed f.i (omega (arith, within, past)) f.kept f.at) (subst (λ (x : Node). IsOneStep x.state step) (sym f.is_node) is));
    good = λ node at blocked.
        let f = from s all node at in
        let within = slice_get_within all f.i f.kept f.at in
        let is = are.good f.i (omega (arith, within, past)) f.kept f.at (subst (λ (x : Node). AllBlocked x.state) (sym f.is_node) blocked) in
        let told : IsGoodBeforeCalls table (way_of rounds) (node_of s f.kept) = record { good = good_any stages [] rows (node_of s f.kept) is.good; next = is.next } in
        subst (IsGoodBeforeCalls table (way_of rounds)) f.is_node told;
  }

-- ---- all is good

pub steps_show_all : (c : Component) (dead : DeadTable) → IsDeadTable c dead → (rounds : Rounds) (matrix : Matrix) (rows : Rows) (first : List Shown) (s : State) → IsStart c matrix s → AreInitial 0 first → (guarded : List Bool) → TellsGuarded c guarded → (place : ℕ) (all : List StoredNode) → length all ≤ place → AreStepped dead rounds rows first s place all → IsLinearizableBy c rounds matrix rows
steps_show_all c dead sound rounds matrix rows first s is initial guarded told place all past are stages bound tables =
    let client : IsStart c (client_matrix (way_of rounds) matrix) s = subst (λ (m : Matrix). IsStart c m s) (sym (same_matrix rounds matrix)) is in
    step_nodes_tell_all c (way_of rounds) matrix bound s dead (table_of stages rows) guarded (map (node_of s) all) client sound told (tables s is) (step_nodes dead rounds rows first s place all past are stages initial)

-- ---- a node is not good

module _ (c : Component) (dead : DeadTable) (sound : IsDeadTable c dead) (rounds : Rounds) (matrix : Matrix) (rows : Rows) (first : List Shown) (s machine : State) (is : IsStart c matrix s) (initial : AreInitial 0 first) (same : SameBase s machine) (n : ℕ) (old new : List StoredNode) (within : n < length old) (are : AreStepped dead rounds rows first s n old) (grows : Grows s old new) (adds : AddsAt dead rounds rows machine n old new) where
  arrivals : AreArrivals dead rounds rows first s new
  arrivals = arrivals_more dead rounds rows first s n old new within are.arrivals grows (λ kept at. base_adds dead rounds rows s machine same n kept old new (adds kept at))

  pub parents : HasParentsBefore new
  parents = parents_before dead rounds rows first s new arrivals

  here : (kept : StoredNode) × (slice_get old n ≡ Some kept)
  here = within_some old n within

  here_now : slice_get new n ≡ Some here.0
  here_now = ap (λ (x : List StoredNode). slice_get x n) grows.parts ∙ kept_at old grows.more here.0 n here.1

  client : IsStart c (client_matrix (way_of rounds) matrix) s
  client = subst (λ (m : Matrix). IsStart c m s) (sym (same_matrix rounds matrix)) is

  way_here : (u : List Move) → IsWayTo new n u → WayFrom dead rounds rows first s u (node_of s here.0)
  way_here u way = way_there dead rounds rows first s new arrivals n u way here.0 here_now

  judged_here : (judged : Judged) → IsJudgedIn rounds rows machine old n judged → IsJudged rounds rows (node_of s here.0) judged
  judged_here judged told = subst (λ (x : Node). IsJudged rounds rows x judged) (base_node s machine here.0 same) (told here.0 here.1)

  bad_fails : IsJudgedIn rounds rows machine old n Bad → (moves : Vec Move) → IsWayWith new n None moves.items → IsVerdict c rounds matrix rows (Fails moves)
  bad_fails told moves (u, to, whole) stages bound tables =
      let way = way_here u to in
      let bad = judged_here Bad told in
      subst (FailsBy c matrix (way_of rounds)) (sym (whole ∙ append-nil u))
      (bad_node_fails c (limit_of rounds) matrix bound s dead (table_of stages rows) way.first u (node_of s here.0) client sound (tables s is) (way.state, subst (AreInitial 0) (sym way.monitor) initial)
      (moves_any dead rounds stages [] rows u way.first (node_of s here.0) way.lead) bad.0 (λ good. bad.1 (good_any [] stages rows (node_of s here.0) good)))

  bad_call_fails : (m : Move) → IsJudgedIn rounds rows machine old n (BadAfterCall m) → (moves : Vec Move) → IsWayWith new n (Some m) moves.items → IsVerdict c rounds matrix rows (Fails moves)
  bad_call_fails m told moves (u, to, whole) stages bound tables =
      let way = way_here u to in
      let bad = judged_here (BadAfterCall m) told in
      subst (FailsBy c matrix (way_of rounds)) (sym whole)
      (blocked_call_fails c (limit_of rounds) matrix bound s dead (table_of stages rows) way.first u (node_of s here.0) m client sound (tables s is) (way.state, subst (AreInitial 0) (sym way.monitor) initial)
      (moves_any dead rounds stages [] rows u way.first (node_of s here.0) way.lead) bad.0 bad.1.0 bad.1.1)

  pub fails : (call : Option Move) → IsStepVisit dead rounds rows machine old n new (Visits call) → (moves : Vec Move) → IsWayWith new n call moves.items → IsVerdict c rounds matrix rows (Fails moves)
  fails None told moves way = bad_fails told moves way
  fails (Some m) told moves way = bad_call_fails m told moves way
