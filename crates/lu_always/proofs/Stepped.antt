-- What nodes that are reached by steps tell of all unrolled matrices.
use Rattle.std.proofs.Common.{◌≡◌, List, [], ◌∷◌, ◌++◌, Option, refl, sym, ◌∙◌, ap, subst}
use Rattle.lu_test.specs.declared.schedule.Move.{Move}
use Rattle.lu_machine.specs.declared.event.Event.{Event}
use Rattle.lu_machine.specs.Runs.{with_event}
use Rattle.lu_machine.specs.States.{State}
use Rattle.lu_machine.proofs.Paths.{leads_split, with_event-append}
use Rattle.lu_horizon.specs.Dead.{IsDeadTable}
use Rattle.lu_serial.specs.Serial.{IsSerialHistory}
use Rattle.lu_tree.proofs.AlikeRuns.{alike_back}
use Rattle.lu_witness.specs.Goodness.{IsGoodAt}
use Rattle.lu_graph.specs.Nodes.{EndsBadly}
use Rattle.lu_late.specs.Steps.{IsIdle}
use Rattle.lu_client.specs.Rounds.Way.{InOrder}
use Rattle.lu_client.specs.Rounds.{Way}
use Rattle.lu_client.specs.Clients.{AllBlocked, ClientLeads, ClientStep, client_matrix, client_of}
use Rattle.lu_client.proofs.Cutting.{client_has_ended}
use Rattle.lu_client.proofs.Played.{ready}
use Rattle.lu_always.specs.Steps.{BlockedCallFails, StepNodesServeAll, StepNodesTellAll}
use Rattle.lu_always.proofs.ClientCalls.{call_blocked}
use Rattle.lu_always.proofs.Decided.{always_has_spec, client_path, same_start, table_here}
use Rattle.lu_always.proofs.Endings.{step_component}
use Rattle.lu_always.proofs.Followed.{ends_well_by_steps, good_call, path_for}
use Rattle.lu_always.proofs.Likeness.{blocked_alike, client_alike, in_order_once}
use Rattle.lu_always.proofs.Refuting.{bad_serves_none}
use Rattle.lu_always.proofs.SamePlaces.{alike_places, client_places, idle_there, places_back, places_on}
use Rattle.lu_answers.proofs.ReadSerially.{none_offends}

pub step_nodes_tell_all : StepNodesTellAll
step_nodes_tell_all c way matrix bound start dead table guarded list from sound told are nodes big unrolled s is =
    let same = same_start c way matrix bound start table from are big s unrolled is in
    let mine = table_here c way matrix bound start table from are big s unrolled is in (
      none_offends c way matrix big bound s table unrolled is mine,
      ends_well_by_steps c way matrix big bound s dead sound table unrolled is mine start list nodes guarded told same,
    )

pub step_nodes_serve_all : StepNodesServeAll
step_nodes_serve_all c way matrix bound start dead table guarded list big from sound told are nodes unrolled =
    always_has_spec c way matrix bound start table big from are (step_nodes_tell_all c way matrix bound start dead table guarded list from sound told are nodes) unrolled

-- ---- a call that cannot be stuck

-- one move more
client_more : (way : Way) (a : State) (u : List Move) (b : State) (history : List Event) (m : Move) (next : State) (event : Option Event) → ClientLeads way a u b history → ClientStep way b m next event → ClientLeads way a (u ++ m ∷ []) next (history ++ with_event event [])
client_more way a [] b history m next event leads step =
    (next, event, [], subst (λ x. ClientStep way x m next event) leads.0 step, (refl, refl), ap (λ h. h ++ with_event event []) leads.1)
client_more way a (x ∷ u) b history m next event (mid, e, rest, one, leads, joined) step = (
  mid,
  e,
  rest ++ with_event event [],
  one,
  client_more way mid u b rest m next event leads step,
  ap (λ h. h ++ with_event event []) joined ∙ with_event-append e rest (with_event event []),
)

pub blocked_call_fails : BlockedCallFails
blocked_call_fails c rounds matrix bound start dead table first u node m from sound are is_first path blocked (is, (b, event, step, none)) never =
    let way = InOrder rounds in
    let v = u ++ m ∷ [] in
    let component : start.component ≡ c = (ready c (client_matrix way matrix) start from).component in
    let run = client_path c dead sound table way u first node start component is_first.0 path in
    let of : node.state.component ≡ c = run.state.component ∙ run.component in
    let known : IsDeadTable node.state.component dead = subst (λ x. IsDeadTable x dead) (sym of) sound in
    let known_after : IsDeadTable b.component dead = subst (λ x. IsDeadTable x dead) (sym (step_component c way node.state m b event of step)) sound in
    let there = client_alike dead way node.state run.b known (alike_back dead run.b node.state run.state) m b event step in
    let all : AllBlocked there.0 = blocked_alike dead way b there.0 known_after there.2 (call_blocked way node.state m b event step is blocked none) in
    let it = client_has_ended c way matrix start v there.0 (run.history ++ with_event event []) from (client_more way start u run.b run.history m there.0 event run.leads there.1) all in
    let big = it.0 in
    let made = it.1 in
    let ended = it.2 in
    let s = ended.start in
    let same = same_start c way matrix bound start table from are big s ended.unrolled ended.is_start in
    let mine = table_here c way matrix bound start table from are big s ended.unrolled ended.is_start in
    let split = leads_split s u (m ∷ []) ended.end made ended.leads in
    let mid = split.mid in
    let at = path_for c way matrix big bound s dead sound table ended.unrolled ended.is_start mine (in_order_once rounds) u first node start mid split.first same is_first path split.begins in
    let places = places_on mid (client_of way matrix mid) node.state (client_places way matrix mid) (alike_places dead (client_of way matrix mid) node.state at.state) in
    let idle_here : IsIdle mid m.thread = idle_there node.state mid (places_back mid node.state places) m.thread is in
    let good_never : IsGoodAt (IsSerialHistory s) ended.end made → ⊥ = λ good.
    never (good_call c way matrix big bound s dead sound table ended.unrolled ended.is_start mine u mid split.first node.monitor m ended.end split.second split.begins at.mine idle_here split.goes_on
    (subst (IsGoodAt (IsSerialHistory s) ended.end) {x = made} {y = split.first ++ split.second} split.whole good)) in
    let worse : EndsBadly (IsSerialHistory s) s v = record { end = ended.end; history = made; leads = ended.leads; holds = (ended.ended, good_never) } in
    record {
      big = big;
      unrolled = ended.unrolled;
      start = s;
      is_start = ended.is_start;
      bad = worse;
      none = λ has. bad_serves_none c big s bound v ended.is_start (none_offends c way matrix big bound s table ended.unrolled ended.is_start mine) worse has;
    }
