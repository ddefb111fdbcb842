-- Where the open operations of nodes that are reached by steps may come to an end.
use Rattle.std.proofs.Common.{arith, ◌≡◌, ℕ, zero, suc, ◌≤◌, Bool, List, [], ◌∷◌, length, Option, None, Some, slice_get, refl, sym, ◌∙◌, ap, subst, inl, inr}
use Rattle.std.specs.Option.{option_map}
use Rattle.std.proofs.lemmas.Bool.{le-ltb}
use Rattle.lu_component.specs.Component.{Component}
use Rattle.lu_test.specs.declared.schedule.Move.{Move}
use Rattle.lu_test.specs.Matrix.{Matrix, cut}
use Rattle.lu_machine.specs.declared.event.Event.{Event}
use Rattle.lu_machine.specs.declared.thread.Activity.{Activity}
use Rattle.lu_machine.specs.declared.thread.Activity.TheVariants.{Idle, Open}
use Rattle.lu_machine.specs.declared.thread.Thread.{Thread}
use Rattle.lu_machine.specs.Ends.{HasNoMove, IsEnded}
use Rattle.lu_machine.specs.Runs.{Leads, with_event}
use Rattle.lu_machine.specs.Starts.{IsStart}
use Rattle.lu_machine.specs.States.{State, call_count}
use Rattle.lu_machine.specs.Steps.{Step, picks_of}
use Rattle.lu_machine.proofs.Ended.{complete_or_not}
use Rattle.lu_machine.proofs.Keeping.{step_moved}
use Rattle.lu_machine.proofs.Starting.{start_same}
use Rattle.lu_machine.proofs.StepLaws.{step_same}
use Rattle.lu_horizon.specs.Dead.{DeadTable, IsDeadTable}
use Rattle.lu_serial.specs.Serial.{HasOpen}
use Rattle.lu_serial.specs.Whole.{made_calls}
use Rattle.lu_serial.proofs.Counts.{made_at, made_idle, made_of}
use Rattle.lu_serial.proofs.Cuts.{with_matrix}
use Rattle.lu_serial.proofs.Moves.{count_same, idle_or_not, step_stepped}
use Rattle.lu_tree.specs.Alike.{AreAlike}
use Rattle.lu_tree.proofs.Alike.{alike_itself}
use Rattle.lu_tree.proofs.AlikeRuns.{alike_back}
use Rattle.lu_graph.specs.First.{GoesFirst}
use Rattle.lu_graph.specs.Guards.{TellsGuarded}
use Rattle.lu_graph.proofs.Guarded.{IsOwned, start_owned, step_owned}
use Rattle.lu_linearization.specs.declared.configuration.Configuration.{Configuration as Shown}
use Rattle.lu_late.specs.Steps.{AreCalls, IsIdle, IsOneStep, LeadsBySteps}
use Rattle.lu_client.specs.Rounds.{IsUnrolledFrom, Way}
use Rattle.lu_client.specs.Clients.{AllBlocked, ClientLeads, ClientStep, client_matrix, client_of, event_in}
use Rattle.lu_client.specs.Livelock.{MayEnd, OpenLeads}
use Rattle.lu_client.specs.Stages.{IsIn}
use Rattle.lu_client.proofs.Clients.{move_to_client, open_from_client}
use Rattle.lu_client.proofs.Cutting.{blocked_here, cut_run, made_grows}
use Rattle.lu_client.proofs.Drawing.{schedule_from_client}
use Rattle.lu_client.proofs.MayEnd.{no_livelock}
use Rattle.lu_client.proofs.Played.{ready}
use Rattle.lu_client.proofs.Unrolled.{client_starts}
use Rattle.lu_answers.specs.Tables.{Table}
use Rattle.lu_always.specs.Nodes.{Node}
use Rattle.lu_always.specs.Steps.{AreStepNodes, HasNodeAfter}
use Rattle.lu_always.proofs.ClientCalls.{client_picks, open_not_idle}
use Rattle.lu_always.proofs.Decided.{client_path}
use Rattle.lu_always.proofs.Endings.{lost_node_livelocks}
use Rattle.lu_always.proofs.Likeness.{alike_on, alike_open, blocked_alike, client_alike}
use Rattle.lu_always.proofs.SamePlaces.{HaveSamePlaces, alike_places, client_places, first_there, one_step_there, places_back, places_on}
use Rattle.lu_always.proofs.Stood.{HaveSameOpen, client_standing, open_same}
use Rattle.lu_late.specs.Rests.{AreOpenSteps, IsAtRest, RestsBySteps}
use Rattle.lu_always.specs.StepLivelocks.{LostStepNodeLivelocks, MayEndBySteps, OpenStepsLead, StepNodesNeverLivelock}
use Rattle.lu_late.proofs.Freed.{all_rest}
use Rattle.lu_late.proofs.Steps.{tell}

-- ---- at rest

blocked_rest : (s : State) → AllBlocked s → IsAtRest s
blocked_rest s all t not_idle = by_thread (slice_get s.threads t) refl
  where
    by_activity : (k : ℕ) (a : Activity) → slice_get s.threads t ≡ Some (record { done = k; activity = a }) → picks_of s t ≡ 0
    by_activity k Idle is = absurd (not_idle (k, is))
    by_activity k (Open f) is = all t (record { done = k; activity = Open f }, is, λ e. cc)

    by_thread : (o : Option Thread) → slice_get s.threads t ≡ o → picks_of s t ≡ 0
    by_thread None is = rw is refl
    by_thread (Some a) is = by_activity a.done a.activity is

rest_blocked : (s : State) → IsAtRest s → AllBlocked s
rest_blocked s at_rest t busy = at_rest t (open_not_idle s t busy)

client_blocked : (way : Way) (matrix : Matrix) (s : State) → AllBlocked s → AllBlocked (client_of way matrix s)
client_blocked way matrix s all t busy =
    let here = open_same (client_of way matrix s) s (client_standing way matrix s) t busy in
    client_picks way matrix s t here ∙ all t here

-- ---- where no call is left

abbrev pub NoneLeft : State → Type 0
NoneLeft s = (t : ℕ) → call_count s t ≤ made_of s t

-- each move is of an open operation
none_idle : (s : State) (m : Move) (next : State) (e : Option Event) → NoneLeft s → Step s m next e → HasOpen s m.thread
none_idle s m next e none step =
    let its = step_stepped s m next e step in
    elim its.kind as (λ _. HasOpen s m.thread) [
      | inl called ↦
          (let made = made_at s m.thread its.before its.was in
          let idle = made_idle its.before called.0 in
          let left = called.4 in
          let most = none m.thread in
          absurd (omega (arith, made, idle, left, most)))
      | inr other ↦ elim other as (λ _. HasOpen s m.thread) [ inl went ↦ (its.before, its.was, went.0) | inr closed ↦ (its.before, its.was, closed.0) ]
    ]

none_on : (s : State) (m : Move) (next : State) (e : Option Event) → NoneLeft s → Step s m next e → NoneLeft next
none_on s m next e none step t =
    let its = step_stepped s m next e step in
    let most = none t in
    let grows = made_grows s m next e its t in
    let count = count_same s next t its.matrix in
    omega (arith, most, grows, count)

none_along : (u : List Move) (s end : State) (h : List Event) → NoneLeft s → Leads s u end h → NoneLeft end
none_along [] s end h none leads = subst NoneLeft (sym leads.0) none
none_along (m ∷ u) s end h none (next, e, rest, step, leads, joined) = none_along u next end rest (none_on s m next e none step) leads

picks_idle : (s : State) (t : ℕ) (a : Thread) → slice_get s.threads t ≡ Some a → a.activity ≡ Idle → call_count s t ≤ a.done → picks_of s t ≡ 0
picks_idle s t a stands idle over = rw (stands, idle, le-ltb a.done (call_count s t) over) refl

-- where all open operations are blocked, it has ended
none_ended : (s : State) → NoneLeft s → AllBlocked s → IsEnded s
none_ended s none all = elim (complete_or_not s) as (λ _. IsEnded s) [ inl complete ↦ inl complete | inr not ↦ inr (not, still) ]
  where
    still : HasNoMove s
    still t = by_thread (slice_get s.threads t) refl
      where
        by_thread : (o : Option Thread) → slice_get s.threads t ≡ o → picks_of s t ≡ 0
        by_thread None is = rw is refl
        by_thread (Some a) is = elim (idle_or_not a.activity) as (λ _. picks_of s t ≡ 0) [
          | inl idle ↦
              (let made = made_at s t a is in
              let done = made_idle a idle in
              let most = none t in
              picks_idle s t a is idle (omega (arith, made, done, most)))
          | inr busy ↦ all t (a, is, busy)
        ]

-- where a schedule leads, threads own the locks of their critical sections still
owned_along : (c : Component) (u : List Move) (s end : State) (h : List Event) → IsOwned s → s.component ≡ c → Leads s u end h → IsOwned end × (end.component ≡ c)
owned_along c [] s end h owned is leads = (subst IsOwned (sym leads.0) owned, ap (λ (z : State). z.component) leads.0 ∙ is)
owned_along c (m ∷ u) s end h owned is (next, e, rest, step, leads, joined) =
    owned_along c u next end rest (step_owned s m next e step owned) ((step_moved s m next e step).component ∙ is) leads

-- ---- states of an unrolled matrix and of the client

module _ (c : Component) (way : Way) (matrix : Matrix) (dead : DeadTable) (sound : IsDeadTable c dead) (guarded : List Bool) (told : TellsGuarded c guarded) where
  -- x is the client's state for s, but for dead registers
  pub record IsFor (s x : State) : Type 0 where
    pub component : s.component ≡ c
    pub unrolled : IsUnrolledFrom way matrix s.matrix
    pub owned : IsOwned s
    pub alike : AreAlike dead (client_of way matrix s) x

  known : (s : State) → s.component ≡ c → IsDeadTable s.component dead
  known s is = subst (λ d. IsDeadTable d dead) (sym is) sound

  module _ (s x : State) (it : IsFor s x) where
    places : HaveSamePlaces s x
    places = places_on s (client_of way matrix s) x (client_places way matrix s) (alike_places dead (client_of way matrix s) x it.alike)

    same_open : HaveSameOpen x s
    same_open t = alike_open dead (client_of way matrix s) x it.alike t ∙ client_standing way matrix s t

    known_there : IsDeadTable x.component dead
    known_there = known x (it.alike.component ∙ it.component)

    back : AreAlike dead x (client_of way matrix s)
    back = alike_back dead (client_of way matrix s) x it.alike

    blocked_there : AllBlocked s → AllBlocked x
    blocked_there all = blocked_alike dead way (client_of way matrix s) x (known s it.component) it.alike (client_blocked way matrix s all)

    blocked_back : AllBlocked x → AllBlocked s
    blocked_back all = blocked_here way matrix s (blocked_alike dead way x (client_of way matrix s) known_there back all)

    for_next : (m : Move) (next : State) (e : Option Event) (y : State) → Step s m next e → AreAlike dead (client_of way matrix next) y → IsFor next y
    for_next m next e y step alike =
        let moved = step_moved s m next e step in
        record {
          component = moved.component ∙ it.component;
          unrolled = subst (IsUnrolledFrom way matrix) (sym moved.matrix) it.unrolled;
          owned = step_owned s m next e step it.owned;
          alike = alike;
        }

    -- a move of the unrolled matrix is one of the client
    pub to_client : (m : Move) (next : State) (e : Option Event) → Step s m next e → (y : State) × ClientStep way x m y (option_map (event_in way matrix) e) × IsFor next y
    to_client m next e step =
        let to = move_to_client way matrix s m next e it.unrolled step in
        let there = client_alike dead way (client_of way matrix s) x (known s it.component) it.alike m (client_of way matrix next) (option_map (event_in way matrix) e) to in
        (there.0, there.1, for_next m next e there.0 step there.2)

    -- and one of an open operation of the client is one of the unrolled matrix
    pub from_client : (m : Move) (y : State) (event : Option Event) → HasOpen x m.thread → ClientStep way x m y event → (next : State) × (e : Option Event) × Step s m next e × IsFor next y
    from_client m y event busy step =
        let to = client_alike dead way x (client_of way matrix s) known_there back m y event step in
        let moved = open_from_client way matrix s m to.0 event (open_same x s same_open m.thread busy) to.1 in
        let alike : AreAlike dead (client_of way matrix moved.next) y = subst (λ z. AreAlike dead z y) (sym moved.is) (alike_back dead y to.0 to.2) in
        (moved.next, moved.made, moved.step, for_next m moved.next moved.made y moved.step alike)

  -- steps of open operations
  steps_back : (u : List Move) (s x b : State) → IsFor s x → OpenStepsLead way x u b → (end : State) × (h : List Event) × Leads s u end h × AreOpenSteps s u × IsFor end b
  steps_back [] s x b it same = (s, [], (refl, refl), tt, subst (IsFor s) (sym same) it)
  steps_back (m ∷ u) s x b it (y, event, busy, first, step, rest) =
      let to = from_client s x it m y event busy step in
      let next = to.0 in
      let on = steps_back u next y b to.3 rest in
      let not_idle : IsIdle s m.thread → ⊥ = open_not_idle s m.thread (open_same x s (same_open s x it) m.thread busy) in (
        on.0,
        with_event to.1 on.1,
        (next, to.1, on.1, to.2, on.2, refl),
        (not_idle, first_there x s (places_back s x (places s x it)) m first, λ now e other. subst (λ z. AreOpenSteps z u) (step_same s m next now to.1 e to.2 other).0 on.3),
        on.4,
      )

  -- moves of open operations
  moves_back : (u : List Move) (s x b : State) → IsFor s x → OpenLeads way x u b → (end : State) × (h : List Event) × Leads s u end h × IsFor end b
  moves_back [] s x b it same = (s, [], (refl, refl), subst (IsFor s) (sym same) it)
  moves_back (m ∷ u) s x b it (y, event, busy, step, rest) =
      let to = from_client s x it m y event busy step in
      let on = moves_back u to.0 y b to.3 rest in
      (on.0, with_event to.1 on.1, (to.0, to.1, on.1, to.2, on.2, refl), on.3)

  -- where no call is left, all moves are of open operations
  moves_there : (u : List Move) (s x end : State) (h : List Event) → IsFor s x → NoneLeft s → Leads s u end h → (b : State) × OpenLeads way x u b × IsFor end b
  moves_there [] s x end h it none leads = (x, refl, subst (λ z. IsFor z x) (sym leads.0) it)
  moves_there (m ∷ u) s x end h it none (next, e, rest, step, leads, joined) =
      let to = to_client s x it m next e step in
      let on = moves_there u next to.0 end rest to.2 (none_on s m next e none step) leads in
      let busy = open_same s x (λ t. sym (same_open s x it t)) m.thread (none_idle s m next e none step) in
      (on.0, (to.0, option_map (event_in way matrix) e, busy, to.1, on.1), on.2)

  record OneThere (s x next : State) : Type 0 where
    m : Move
    y : State
    event : Option Event
    busy : HasOpen x m.thread
    first : GoesFirst x m
    step : ClientStep way x m y event
    for : IsFor next y
    none : NoneLeft next

  one_there : (step : List Move) (s x next : State) (first : List Event) → IsFor s x → NoneLeft s → IsOneStep s step → Leads s step next first → OneThere s x next
  one_there [] s x next first it none one leads = absurd one
  one_there (m ∷ []) s x next first it none one (mid, e, rest, step, (same, nothing), joined) =
      let to = to_client s x it m mid e step in
      record {
        m = m;
        y = to.0;
        event = option_map (event_in way matrix) e;
        busy = open_same s x (λ t. sym (same_open s x it t)) m.thread (none_idle s m mid e none step);
        first = first_there s x (places s x it) m one.1;
        step = to.1;
        for = subst (λ z. IsFor z to.0) (sym same) to.2;
        none = subst NoneLeft (sym same) (none_on s m mid e none step);
      }
  one_there (m ∷ k ∷ []) s x next first it none one (mid, e, rest, step, leads, joined) = absurd (open_not_idle s m.thread (none_idle s m mid e none step) one.0)
  one_there (m ∷ k ∷ l ∷ u) s x next first it none one leads = absurd one

  steps_there : (n : ℕ) (s x : State) (u : List Move) (end : State) (h : List Event) → IsFor s x → NoneLeft s → LeadsBySteps n s u end h → (v : List Move) × (b : State) × OpenStepsLead way x v b × IsFor end b × NoneLeft end
  steps_there zero s x u end h it none taken = ([], x, refl, subst (λ z. IsFor z x) (sym taken.1) it, subst NoneLeft (sym taken.1) none)
  steps_there (suc n) s x u end h it none (step, rest, next, first, more, one, leads, taken, joined, whole) =
      let o = one_there step s x next first it none one leads in
      let on = steps_there n next o.y rest end more o.for o.none taken in
      (o.m ∷ on.0, on.1, (o.y, o.event, o.busy, o.first, o.step, on.2), on.3, on.4)

  -- ---- to where all open operations are blocked

  no_calls : (s : State) (u : List Move) (end : State) (h : List Event) → NoneLeft s → AreCalls s u → Leads s u end h → end ≡ s
  no_calls s [] end h none calls leads = leads.0
  no_calls s (m ∷ u) end h none calls (next, e, rest, step, leads, joined) = absurd (open_not_idle s m.thread (none_idle s m next e none step) calls.0)

  -- where moves of open operations lead there, so do steps
  by_steps : (s x : State) → IsFor s x → NoneLeft s → MayEnd way x → MayEndBySteps way x
  by_steps s x it none (w, y, moves, all) =
      let to = moves_back w s x y it moves in
      let q = to.0 in
      let blocked = blocked_back q y to.3 all in
      let ended = none_ended q (none_along w s q to.1 none to.2) blocked in
      let known_guarded = subst (λ (d : Component). TellsGuarded d guarded) (sym it.component) told in
      let r = tell guarded (suc (length w)) s w q to.1 (omega arith) (known_guarded, it.owned) to.2 ended in
      let on = steps_there r.steps s x r.schedule r.rest r.before it none r.taken in
      let same : q ≡ r.rest = no_calls r.rest r.calls q r.after on.4 r.are_calls r.leads in
      (on.0, on.1, on.2, blocked_there r.rest on.1 on.3 (subst AllBlocked same blocked))

  -- ---- from each state

  module _ (table : Table) (start : State) (list : List Node) (nodes : AreStepNodes dead table way start list) (may : (node : Node) → IsIn list node → MayEndBySteps way node.state) where
    -- a node represents the client's state
    record IsThere (s : State) : Type 0 where
      node : Node
      among : IsIn list node
      for : IsFor s node.state

    along : (u : List Move) (s x : State) (monitor : List Shown) (end : State) (h : List Event) → IsFor s x → HasNodeAfter dead table way list x u monitor → Leads s u end h → IsThere end
    along [] s x monitor end h it (node, among, state, same) leads =
        let here : IsFor s node.state = record { component = it.component; unrolled = it.unrolled; owned = it.owned; alike = alike_on dead (client_of way matrix s) x node.state it.alike state } in
        subst IsThere (sym leads.0) (record { node = node; among = among; for = here })
    along (m ∷ u) s x monitor end h it after (next, e, rest, step, leads, joined) =
        let to = to_client s x it m next e step in
        let on = after to.0 (option_map (event_in way matrix) e) to.1 in
        along u next to.0 on.0 end rest to.2 on.2 leads

    goes : (s : State) → IsThere s → TellsGuarded s.component guarded × IsOwned s
    goes s there = (subst (λ (d : Component). TellsGuarded d guarded) (sym there.for.component) told, there.for.owned)

    step_on : (s : State) (step : List Move) (next : State) (first : List Event) → IsThere s → IsOneStep s step → Leads s step next first → IsThere next
    step_on s step next first there one leads =
        let node = there.node in
        along step s node.state node.monitor next first there.for (nodes.closed node step there.among (one_step_there s node.state (places s node.state there.for) step one)) leads

    rests : (s : State) → IsThere s → RestsBySteps s
    rests s there =
        let its = may there.node there.among in
        let to = steps_back its.0 s there.node.state its.1 there.for its.2 in
        record {
          moves = its.0;
          rest = to.0;
          history = to.1;
          leads = to.2;
          steps = to.3;
          at_rest = blocked_rest to.0 (blocked_back to.0 its.1 to.4 its.3);
        }

    for_start : (big : Matrix) (s : State) → IsStart c (client_matrix way matrix) start → IsUnrolledFrom way matrix big → IsStart c big s → IsThere s
    for_start big s from unrolled is =
        let at = ready c big s is in
        let same : start ≡ client_of way matrix s = start_same c (client_matrix way matrix) start (client_of way matrix s) from (client_starts c way matrix big s unrolled is) in
        let first = nodes.starts in
        record {
          node = first.0;
          among = first.1;
          for = record {
            component = at.component;
            unrolled = subst (IsUnrolledFrom way matrix) (sym at.matrix_is) unrolled;
            owned = start_owned c big s is;
            alike = subst (λ z. AreAlike dead z first.0.state) same first.2.0;
          };
        }

    -- from each state to which the client comes, moves of open operations may lead to an end
    may_end : IsStart c (client_matrix way matrix) start → (u : List Move) (b : State) (history : List Event) → ClientLeads way start u b history → MayEnd way b
    may_end from u b history path =
        let there = schedule_from_client c way matrix start u b history from path in
        let run = cut_run c way matrix there.big there.start u there.end there.made there.unrolled there.is_start there.leads in
        let smaller = cut there.big (made_calls there.end) in
        let end = with_matrix there.end smaller in
        let first = for_start smaller run.start from run.unrolled run.is_start in
        let r = all_rest guarded IsThere goes step_on rests (suc (length u)) run.start u end there.made (omega arith) first run.leads in
        let here = owned_along c u run.start end there.made first.for.owned first.for.component run.leads in
        let it : IsFor end b = record {
          component = here.1;
          unrolled = run.unrolled;
          owned = here.0;
          alike = subst (AreAlike dead (client_of way matrix end)) there.is (alike_itself dead (client_of way matrix end));
        } in
        let to = moves_there r.moves end b r.rest r.history it run.is.few r.leads in
        (r.moves, to.0, to.1, blocked_there r.rest to.0 to.2 (rest_blocked r.rest r.at_rest))

pub step_nodes_never_livelock : StepNodesNeverLivelock
step_nodes_never_livelock c way matrix start dead table guarded list from sound told nodes may big unrolled s is u end history leads =
    no_livelock c way matrix big start s u end history from (may_end c way matrix dead sound guarded told table start list nodes may from) unrolled is leads

pub lost_step_node_livelocks : LostStepNodeLivelocks
lost_step_node_livelocks c way matrix start dead table guarded first u node from sound told is_first path never =
    lost_node_livelocks c way matrix start dead table first u node from sound is_first.0 path
    (λ may.
    (let component = (ready c (client_matrix way matrix) start from).component in
    let run = client_path c dead sound table way u first node start component is_first.0 path in
    let there = schedule_from_client c way matrix start u run.b run.history from run.leads in
    let made = cut_run c way matrix there.big there.start u there.end there.made there.unrolled there.is_start there.leads in
    let smaller = cut there.big (made_calls there.end) in
    let end = with_matrix there.end smaller in
    let at = ready c smaller made.start made.is_start in
    let here = owned_along c u made.start end there.made (start_owned c smaller made.start made.is_start) at.component made.leads in
    let it : IsFor c way matrix dead sound guarded told end node.state = record {
      component = here.1;
      unrolled = made.unrolled;
      owned = here.0;
      alike = subst (λ z. AreAlike dead z node.state) (sym there.is) run.state;
    } in
    never (by_steps c way matrix dead sound guarded told end node.state it made.is.few may)))
