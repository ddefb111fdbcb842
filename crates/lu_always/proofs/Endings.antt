-- Where the open operations of nodes may come to an end, and what that says of unrolled matrices.
use Rattle.std.proofs.Common.{◌≡◌, List, [], ◌∷◌, Option, refl, sym, ◌∙◌, ap, subst}
use Rattle.lu_component.specs.Component.{Component}
use Rattle.lu_test.specs.declared.schedule.Move.{Move}
use Rattle.lu_machine.specs.declared.event.Event.{Event}
use Rattle.lu_machine.specs.States.{State}
use Rattle.lu_machine.proofs.Keeping.{step_moved}
use Rattle.lu_horizon.specs.Dead.{DeadTable, IsDeadTable}
use Rattle.lu_tree.specs.Alike.{AreAlike}
use Rattle.lu_tree.proofs.AlikeRuns.{alike_back}
use Rattle.lu_client.specs.Rounds.{Way}
use Rattle.lu_client.specs.Clients.{AllBlocked, ClientLeads, ClientStep, client_matrix}
use Rattle.lu_client.specs.Livelock.{MayEnd, OpenLeads}
use Rattle.lu_client.specs.Stages.{IsIn}
use Rattle.lu_client.proofs.MayEnd.{no_livelock, some_livelock}
use Rattle.lu_client.proofs.Played.{ready}
use Rattle.lu_always.specs.Livelocks.{AreAllNodes, LivelocksNever, LostNodeLivelocks, NodesNeverLivelock}
use Rattle.lu_always.specs.Nodes.{Node, Represents}
use Rattle.lu_answers.specs.Tables.{Table}
use Rattle.lu_always.proofs.Decided.{client_path}
use Rattle.lu_always.proofs.Likeness.{alike_on, alike_open, blocked_alike, client_alike}
use Rattle.lu_always.proofs.Stood.{open_same}

-- a move of the client keeps the component
pub step_component : (c : Component) (way : Way) (a : State) (m : Move) (b : State) (event : Option Event) → a.component ≡ c → ClientStep way a m b event → b.component ≡ c
step_component c way a m b event is step =
    ap (λ (x : State). x.component) step.2.2 ∙ ((step_moved (let x : State = record a { matrix = step.0 } in x) m step.2.0 event step.2.1).component ∙ is)

module _ (c : Component) (way : Way) (dead : DeadTable) (sound : IsDeadTable c dead) where
  -- it is a table of each state's component
  known : (s : State) → s.component ≡ c → IsDeadTable s.component dead
  known s is = subst (λ x. IsDeadTable x dead) (sym is) sound

  -- states that differ in dead registers only come to an end by the same moves
  ends_alike : (u : List Move) (s r end : State) → s.component ≡ c → AreAlike dead s r → OpenLeads way s u end → AllBlocked end → MayEnd way r
  ends_alike [] s r end is alike path blocked =
      ([], r, refl, blocked_alike dead way s r (known s is) alike (subst AllBlocked path blocked))
  ends_alike (m ∷ u) s r end is alike (next, event, busy, step, rest) blocked =
      let here = open_same s r (λ t. sym (alike_open dead s r alike t)) m.thread busy in
      let there = client_alike dead way s r (known s is) alike m next event step in
      let on = ends_alike u next there.0 end (step_component c way s m next event is step) there.2 rest blocked in
      (m ∷ on.0, on.1, (there.0, event, here, there.1, on.2), on.3)

  pub may_end_alike : (s r : State) → s.component ≡ c → AreAlike dead s r → MayEnd way s → MayEnd way r
  may_end_alike s r is alike may = ends_alike may.0 s r may.1 is alike may.2 may.3

  -- a node of the list represents the state
  record HasNodeOf (list : List Node) (s : State) : Type 0 where
    node : Node
    among : IsIn list node
    state : Represents dead node s
    component : s.component ≡ c

  -- the client comes to states of nodes only
  nodes_along : (table : Table) (start : State) (list : List Node) → AreAllNodes dead table way start list → (u : List Move) (a b : State) (history : List Event) → HasNodeOf list a → ClientLeads way a u b history → HasNodeOf list b
  nodes_along table start list are [] a b history has path = subst (HasNodeOf list) (sym path.0) has
  nodes_along table start list are (m ∷ u) a b history has (next, event, rest, step, path, is) =
      let there = client_alike dead way a has.node.state (known a has.component) has.state m next event step in
      let to = are.closed has.node m there.0 event has.among there.1 in
      nodes_along table start list are u next b rest
      (record {
        node = to.0;
        among = to.1;
        state = alike_on dead next there.0 to.0.state there.2 to.2;
        component = step_component c way a m next event has.component step;
      })
      path

pub nodes_never_livelock : NodesNeverLivelock
nodes_never_livelock c way matrix start dead table list from sound are may big unrolled s is u end history leads =
    no_livelock c way matrix big start s u end history from
    (λ v b h path.
    (let component = (ready c (client_matrix way matrix) start from).component in
    let first : HasNodeOf c way dead sound list start = record { node = are.starts.0; among = are.starts.1; state = are.starts.2; component = component } in
    let has = nodes_along c way dead sound table start list are v start b h first path in
    may_end_alike c way dead sound has.node.state b (has.state.component ∙ has.component) (alike_back dead b has.node.state has.state) (may has.node has.among)))
    unrolled is leads

pub lost_node_livelocks : LostNodeLivelocks
lost_node_livelocks c way matrix start dead table first u node from sound is_first path never =
    let component = (ready c (client_matrix way matrix) start from).component in
    let run = client_path c dead sound table way u first node start component is_first path in
    let it = some_livelock c way matrix start u run.b run.history from run.leads (λ may. never (may_end_alike c way dead sound run.b node.state run.component run.state may)) in
    record {
      big = it.0;
      unrolled = it.2.unrolled;
      start = it.2.start;
      is_start = it.2.is_start;
      lost = record {
        end = it.2.end;
        history = it.1;
        leads = it.2.leads;
        holds = λ v ends. it.2.none (v, ends.end, ends.history, ends.leads, ends.holds);
      };
    }

pub livelocks_never : LivelocksNever
livelocks_never c matrix way u never livelock =
    let lost = livelock.lost in
    let ends = never livelock.big livelock.unrolled livelock.start livelock.is_start u lost.end lost.history lost.leads in
    lost.holds ends.0 (record { end = ends.1; history = ends.2; leads = ends.3; holds = ends.4 })
