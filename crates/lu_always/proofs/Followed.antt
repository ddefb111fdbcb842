-- Where a schedule of an unrolled matrix leads, there is a node, whose monitor is that of its history.
use Rattle.std.proofs.Common.{arith, ◌≡◌, ◌≢◌, ◌↔◌, ℕ, suc, ◌+◌, ◌<◌, ◌≤◌, Bool, List, [], ◌∷◌, ◌++◌, length, take, drop, Option, Some, None, slice_get, refl, sym, ◌∙◌, ap, subst, inl, inr, append_assoc}
use Rattle.std.specs.Option.{option_map}
use Rattle.std.proofs.lemmas.Bool.{lt-ltb}
use Rattle.std.proofs.lemmas.List.{append-nil}
use Rattle.lu_component.specs.Component.{Component}
use Rattle.lu_test.specs.declared.schedule.Move.{Move}
use Rattle.lu_test.specs.Matrix.{Matrix, calls_of}
use Rattle.lu_machine.specs.declared.event.Event.{Event}
use Rattle.lu_machine.specs.declared.event.Event.TheVariants.{Call, Return}
use Rattle.lu_machine.specs.Changes.{IsAtWork, idle}
use Rattle.lu_machine.specs.States.{State, call_count, progress}
use Rattle.lu_machine.specs.Steps.{Step, picks_of}
use Rattle.lu_machine.specs.Runs.{Leads, with_event}
use Rattle.lu_machine.specs.Starts.{IsStart}
use Rattle.lu_machine.specs.Ends.{IsComplete, IsEnded}
use Rattle.lu_machine.proofs.Keeping.{step_moved}
use Rattle.lu_machine.proofs.Paths.{child_leads, leads_on, with_event-append}
use Rattle.lu_machine.proofs.StepLaws.{feasible_step}
use Rattle.lu_horizon.specs.Dead.{DeadTable, IsDeadTable}
use Rattle.lu_history.specs.declared.operation.OpId.{OpId}
use Rattle.lu_history.specs.declared.serial.SerialOp.{SerialOp}
use Rattle.lu_history.specs.Histories.{IsPending, calls, outcomes}
use Rattle.lu_history.specs.Parts.{keep_pending}
use Rattle.lu_history.specs.Standing.{Agree}
use Rattle.lu_history.proofs.Events.{calls-append, calls_call, last_at, outcomes-append, split_at}
use Rattle.lu_history.proofs.Following.{start_agrees, step_agrees}
use Rattle.lu_serial.specs.Serial.{HasOpen, IsSerialHistory}
use Rattle.lu_serial.specs.Offences.{NoOffence}
use Rattle.lu_serial.proofs.Opening.{complete_not_open, no_open_complete}
use Rattle.lu_tree.specs.Alike.{AreAlike}
use Rattle.lu_tree.proofs.AlikeRuns.{picks_alike}
use Rattle.lu_graph.specs.Guards.{TellsGuarded}
use Rattle.lu_graph.specs.Nodes.{EndsWell}
use Rattle.lu_late.specs.LastCalls.{AreAllBlocked, IsGoodBefore}
use Rattle.lu_late.specs.Steps.{IsIdle, IsOneStep}
use Rattle.lu_late.proofs.Alone.{call_begins}
use Rattle.lu_late.proofs.Calls.{call_event}
use Rattle.lu_late.proofs.Enough.{ends_well}
use Rattle.lu_witness.specs.Goodness.{IsGoodAt}
use Rattle.lu_witness.specs.Witnesses.{HasWitness, entries}
use Rattle.lu_witness.proofs.Entries.{entries-append, entries_own}
use Rattle.lu_serial.proofs.Cuts.{made_within}
use Rattle.lu_serial.proofs.Counts.{made_of, made_quiet, made_open, run_calls, run_returns}
use Rattle.lu_refute.proofs.Fails.{pending_open}
use Rattle.lu_refute.proofs.Fitting.{serial_fits}
use Rattle.lu_serial.proofs.Grounds.{ground_of, grounded, start_on}
use Rattle.lu_serial.proofs.Moves.{complete_done, done_of}
use Rattle.lu_serial.proofs.Serially.{leads_matrix, leads_seats}
use Rattle.lu_linearization.specs.declared.configuration.Configuration.{Configuration as Shown}
use Rattle.lu_linearization.specs.Linearizations.{AllReturned, HasSequentialThreads, HasOutcome}
use Rattle.lu_linearization.specs.Configurations.{Configuration, HasStuck, HasComplete, IsConfiguration, ReadsPrefixes, pending_call}
use Rattle.lu_linearization.specs.Monitors.{Holds, IsMonitorOf, IsStuckFrom, CanBeStuck, configuration_of}
use Rattle.lu_linearization.proofs.Configured.{call_law, complete_is_configured, puts_waits, return_is_configured, stuck_is_configured}
use Rattle.lu_linearization.proofs.Layers.{same_itself}
use Rattle.lu_linearization.proofs.Monitored.{monitor_calls, monitor_completes, monitor_returns, monitor_starts, monitor_sticks}
use Rattle.lu_linearization.proofs.Sequential.{in_turn, is_pending, pending_count}
use Rattle.lu_client.specs.Rounds.{IsUnrolledFrom, Way}
use Rattle.lu_client.specs.Clients.{AllBlocked, client_of, event_in}
use Rattle.lu_client.specs.Alone.{rest_of}
use Rattle.lu_client.specs.Automaton.{HasAllEntries, NoneStuck}
use Rattle.lu_client.specs.Stages.{IsIn}
use Rattle.lu_client.proofs.Clients.{move_to_client}
use Rattle.lu_client.proofs.OneCalls.{within_some}
use Rattle.lu_client.proofs.Outcomes.{begin_rests, stuck_is_played}
use Rattle.lu_client.proofs.Played.{IsReady, ready, serial_is_played}
use Rattle.lu_answers.specs.Tables.{Goes, IsTableOf, LeadsTo, Table}
use Rattle.lu_always.specs.Nodes.{AreNodes, IsAfterMove, IsFirst, IsGoodNode, IsWithin, MovesLead, Node, Represents, waits_in}
use Rattle.lu_always.specs.Steps.{AreStepNodes, HasNodeAfter, IsGoodBeforeCalls}
use Rattle.lu_always.proofs.BeforeCalls.{part_before, sticks_before}
use Rattle.lu_always.proofs.ClientCalls.{client_picks, open_not_idle, work_open}
use Rattle.lu_always.proofs.SamePlaces.{HaveSamePlaces, alike_places, client_places, idle_there, one_step_there, places_on}
use Rattle.lu_always.proofs.Likeness.{MovesOnce, alike_on, alike_open, client_alike}
use Rattle.lu_always.proofs.Stood.{HaveSameOpen, client_standing, none_sequential, open_same, push_sequential, step_comes, waits_same}
use Rattle.lu_answers.proofs.ReadSerially.{HasRoomFor, is_played, is_read, none_offends, stuck_from, stuck_to}
use Rattle.lu_answers.specs.Reading.{is_automaton, thread_in}

-- the history with this event after it, if there is one
abbrev longer : List Event → Option Event → List Event
longer h event = h ++ with_event event []

-- an entry stands as its operation
entry_stands : (q : List SerialOp) (i : ℕ) (op : SerialOp) → slice_get q i ≡ Some op → HasOutcome q (record { t = op.thread; k = length (entries op.thread (take i q)) }) op.outcome
entry_stands q i op at =
    let t = op.thread in
    let parts : entries t q ≡ entries t (take i q) ++ op.outcome ∷ entries t (drop (suc i) q) =
    ap (entries t) (split_at q op i at) ∙ (entries-append t (take i q) (op ∷ drop (suc i) q) ∙ ap (λ x. entries t (take i q) ++ x) (entries_own op (drop (suc i) q))) in
    ap (λ x. slice_get x (length (entries t (take i q)))) parts ∙ last_at (entries t (take i q)) (entries t (drop (suc i) q)) op.outcome

-- where a list is not empty, something holds of one of its configurations
one_held : (m : List Shown) → m ≢ [] → (P : Configuration ℕ → Type 0) → ((d : Configuration ℕ) → Holds m d → P d) → (d : Configuration ℕ) × P d
one_held [] some P held = absurd (some refl)
one_held (x ∷ m) some P held = (configuration_of x, held (configuration_of x) (inl (same_itself (configuration_of x))))

none_by : (a b : ℕ) → a ≡ b → b ≡ 0 → a ≡ 0
none_by a b same none = same ∙ none

module _ (c : Component) (way : Way) (matrix big : Matrix) (bound : ℕ) (s : State) (dead : DeadTable) (sound : IsDeadTable c dead) (table : Table) (unrolled : IsUnrolledFrom way matrix big) (is : IsStart c big s) (are : IsTableOf c way matrix bound (rest_of s) table) where
  at : IsReady c big s
  at = ready c big s is

  -- ---- move by move

  -- these configurations are those of the history that has led to r
  pub record IsFor (r : State) (h : List Event) (m : List Shown) : Type 0 where
    pub component_is : r.component ≡ c
    pub matrix_is : r.matrix ≡ big
    pub agree : Agree (progress r) h
    pub sequential : HasSequentialThreads h
    pub monitor : IsMonitorOf (LeadsTo table) m h

  pub for_start : (node : Node) (start : State) → IsFirst dead start node → IsFor s [] node.monitor
  for_start node start first = record {
    component_is = at.component;
    matrix_is = at.matrix_is;
    agree = start_agrees c big s is;
    sequential = none_sequential;
    monitor = monitor_starts (LeadsTo table) node.monitor 0 (λ x. ((λ e. e), (λ e. e))) first.1;
  }

  module _ (r : State) (h : List Event) (old new : List Shown) (mine : IsFor r h old) (m : Move) (next : State) where
    same_matrix : (event : Option Event) → Step r m next event → next.matrix ≡ big
    same_matrix event step = leads_matrix r (m ∷ []) next (with_event event []) (next, event, [], step, (refl, refl), refl) ∙ mine.matrix_is

    same_component : (event : Option Event) → Step r m next event → next.component ≡ c
    same_component event step = (step_moved r m next event step).component ∙ mine.component_is

    -- a client stands as the state next
    module _ (x : State) (same : HaveSameOpen x next) where
      pub for_next : (event : Option Event) → Step r m next event → IsAfterMove table x (option_map (event_in way matrix) event) old new → IsFor next (longer h event) new
      for_next None step after = record {
        component_is = same_component None step;
        matrix_is = same_matrix None step;
        agree = step_agrees r m next None h mine.agree step;
        sequential = subst HasSequentialThreads (sym (append-nil h)) mine.sequential;
        monitor = subst (λ x. IsMonitorOf (LeadsTo table) x (longer h None)) (sym after) (subst (IsMonitorOf (LeadsTo table) old) (sym (append-nil h)) mine.monitor);
      }
      for_next (Some (Call t k)) step after =
          let agree = step_agrees r m next (Some (Call t k)) h mine.agree step in
          let sequential = push_sequential h (Call t k) mine.sequential (step_comes r m next (Call t k) h mine.agree step) in
          record {
            component_is = same_component (Some (Call t k)) step;
            matrix_is = same_matrix (Some (Call t k)) step;
            agree = agree;
            sequential = sequential;
            monitor =
                monitor_calls (LeadsTo table) (Goes table) thread_in (is_automaton table) h (record { t = t; k = k }) (waits_in x) old new sequential
                (waits_same x next (longer h (Some (Call t k))) same agree) mine.monitor after;
          }
      for_next (Some (Return t k outcome)) step after =
          let sequential = push_sequential h (Return t k outcome) mine.sequential (step_comes r m next (Return t k outcome) h mine.agree step) in
          record {
            component_is = same_component (Some (Return t k outcome)) step;
            matrix_is = same_matrix (Some (Return t k outcome)) step;
            agree = step_agrees r m next (Some (Return t k outcome)) h mine.agree step;
            sequential = sequential;
            monitor = monitor_returns (LeadsTo table) h (record { t = t; k = k }) outcome old new sequential mine.monitor after;
          }

  -- each of these configurations is one of the history that has led to r
  pub record IsPartFor (r : State) (h : List Event) (m : List Shown) : Type 0 where
    pub component_is : r.component ≡ c
    pub matrix_is : r.matrix ≡ big
    pub agree : Agree (progress r) h
    pub sequential : HasSequentialThreads h
    pub part : (d : Configuration ℕ) → Holds m d → IsConfiguration (LeadsTo table) h d

  part_of : (r : State) (h : List Event) (m : List Shown) → IsFor r h m → IsPartFor r h m
  part_of r h m mine = record {
    component_is = mine.component_is;
    matrix_is = mine.matrix_is;
    agree = mine.agree;
    sequential = mine.sequential;
    part = λ d held. (mine.monitor d).0 held;
  }

  part_less : (r : State) (h : List Event) (m less : List Shown) → IsWithin less m → IsPartFor r h m → IsPartFor r h less
  part_less r h m less within mine = record {
    component_is = mine.component_is;
    matrix_is = mine.matrix_is;
    agree = mine.agree;
    sequential = mine.sequential;
    part = λ d held. mine.part d (within d held);
  }

  module _ (r : State) (h : List Event) (old new : List Shown) (mine : IsPartFor r h old) (m : Move) (next x : State) (same : HaveSameOpen x next) where
    part_base : (event : Option Event) → Step r m next event → (next.component ≡ c) × (next.matrix ≡ big)
    part_base event step = (
      (step_moved r m next event step).component ∙ mine.component_is,
      leads_matrix r (m ∷ []) next (with_event event []) (next, event, [], step, (refl, refl), refl) ∙ mine.matrix_is,
    )

    part_next : (event : Option Event) → Step r m next event → IsAfterMove table x (option_map (event_in way matrix) event) old new → IsPartFor next (longer h event) new
    part_next None step after = record {
      component_is = (part_base None step).0;
      matrix_is = (part_base None step).1;
      agree = step_agrees r m next None h mine.agree step;
      sequential = subst HasSequentialThreads (sym (append-nil h)) mine.sequential;
      part = λ d held. subst (λ g. IsConfiguration (LeadsTo table) g d) (sym (append-nil h)) (mine.part d (subst (λ xs. Holds xs d) after held));
    }
    part_next (Some (Call t k)) step after =
        let agree = step_agrees r m next (Some (Call t k)) h mine.agree step in
        let sequential = push_sequential h (Call t k) mine.sequential (step_comes r m next (Call t k) h mine.agree step) in
        let a : OpId = record { t = t; k = k } in
        let pending = pending_call thread_in (longer h (Some (Call t k))) in
        record {
          component_is = (part_base (Some (Call t k)) step).0;
          matrix_is = (part_base (Some (Call t k)) step).1;
          agree = agree;
          sequential = sequential;
          part = λ d held.
              let (b, made, had, is_first, all) = (after d).0 held in
              let waits = waits_same x next (longer h (Some (Call t k))) same agree in
              (call_law (LeadsTo table) (Goes table) thread_in (is_automaton table) h a d sequential).1
              (b, made, mine.part b had, is_first, puts_waits (LeadsTo table) (Goes table) thread_in (waits_in x) pending (λ u. sym (waits u)) made b d all);
        }
    part_next (Some (Return t k outcome)) step after =
        let sequential = push_sequential h (Return t k outcome) mine.sequential (step_comes r m next (Return t k outcome) h mine.agree step) in
        record {
          component_is = (part_base (Some (Return t k outcome)) step).0;
          matrix_is = (part_base (Some (Return t k outcome)) step).1;
          agree = step_agrees r m next (Some (Return t k outcome)) h mine.agree step;
          sequential = sequential;
          part = λ d held.
              let (b, had, returned) = (after d).0 held in
              (return_is_configured (LeadsTo table) h (record { t = t; k = k }) outcome d sequential).1 (b, mine.part b had, returned);
        }

  abbrev of_next : (r : State) → r.matrix ≡ big → IsUnrolledFrom way matrix r.matrix
  of_next r e = subst (IsUnrolledFrom way matrix) (sym e) unrolled

  sound_at : (r : State) → r.component ≡ c → IsDeadTable (client_of way matrix r).component dead
  sound_at r e = subst (λ x. IsDeadTable x dead) (sym e) sound

  -- what stands as the client does has the same open
  same_open : (x r : State) → AreAlike dead (client_of way matrix r) x → HaveSameOpen x r
  same_open x r alike t = alike_open dead (client_of way matrix r) x alike t ∙ client_standing way matrix r t

  -- ---- a closed list of nodes

  -- one of the list is for the state and the history
  pub record HasNode (list : List Node) (r : State) (h : List Event) : Type 0 where
    pub node : Node
    pub among : IsIn list node
    pub state : Represents dead node (client_of way matrix r)
    pub mine : IsFor r h node.monitor

  module _ (start : State) (list : List Node) (nodes : AreNodes dead table way start list) where
    on_from : (r : State) (h : List Event) → HasNode list r h → (u : List Move) (end : State) (k : List Event) → Leads r u end k → HasNode list end (h ++ k)
    on_from r h has [] end k leads =
        subst (λ x. HasNode list x (h ++ k)) (sym leads.0) (subst (HasNode list r) (sym (ap (λ x. h ++ x) leads.1 ∙ append-nil h)) has)
    on_from r h has (m ∷ u) end k (next, event, rest, step, leads, joined) =
        let to = move_to_client way matrix r m next event (of_next r has.mine.matrix_is) step in
        let there = client_alike dead way (client_of way matrix r) has.node.state (sound_at r has.mine.component_is) has.state m (client_of way matrix next) (option_map (event_in way matrix) event) to in
        let on = nodes.closed has.node m there.0 (option_map (event_in way matrix) event) has.among there.1 in
        let now : HasNode list next (longer h event) = record {
          node = on.0;
          among = on.1;
          state = alike_on dead (client_of way matrix next) there.0 on.0.state there.2 on.2;
          mine = for_next r h has.node.monitor on.0.monitor has.mine m next there.0 (same_open there.0 next there.2) event step on.3;
        } in
        let whole : (h ++ with_event event []) ++ rest ≡ h ++ k = append_assoc h (with_event event []) rest ∙ (ap (λ x. h ++ x) (with_event-append event [] rest) ∙ sym (ap (λ x. h ++ x) joined)) in
        subst (HasNode list end) whole (on_from next (longer h event) now u end rest leads)

    pub node_there : start ≡ client_of way matrix s → (u : List Move) (end : State) (h : List Event) → Leads s u end h → HasNode list end h
    node_there same u end h leads =
        let first = nodes.starts in
        on_from s [] (record { node = first.0; among = first.1; state = subst (Represents dead first.0) same first.2.0; mine = for_start first.0 start first.2 }) u end h leads

  -- ---- a path of nodes

  -- the node is for the state and the history
  pub record IsNodeFor (r : State) (h : List Event) (node : Node) : Type 0 where
    pub state : Represents dead node (client_of way matrix r)
    pub mine : IsFor r h node.monitor

  on_path : MovesOnce way → (u : List Move) (node last : Node) (r : State) (h : List Event) (end : State) (k : List Event) → IsNodeFor r h node → MovesLead dead table way node u last → Leads r u end k → IsNodeFor end (h ++ k) last
  on_path once [] node last r h end k it path leads =
      subst (IsNodeFor end (h ++ k)) (sym path) (subst (λ x. IsNodeFor x (h ++ k) node) (sym leads.0) (subst (λ x. IsNodeFor r x node) (sym (ap (λ x. h ++ x) leads.1 ∙ append-nil h)) it))
  on_path once (m ∷ u) node last r h end k it path (next, event, rest, step, leads, joined) =
      let to = move_to_client way matrix r m next event (of_next r it.mine.matrix_is) step in
      let there = client_alike dead way (client_of way matrix r) node.state (sound_at r it.mine.component_is) it.state m (client_of way matrix next) (option_map (event_in way matrix) event) to in
      let move = path.2 in
      let same = once node.state m move.0 there.0 path.1 (option_map (event_in way matrix) event) move.1 there.1 in
      let here : there.0 ≡ move.0 = sym same.0 in
      let alike : AreAlike dead (client_of way matrix next) move.0 = subst (AreAlike dead (client_of way matrix next)) here there.2 in
      let after : IsAfterMove table move.0 (option_map (event_in way matrix) event) node.monitor path.0.monitor =
      subst (λ e. IsAfterMove table move.0 e node.monitor path.0.monitor) same.1 move.3 in
      let now : IsNodeFor next (longer h event) path.0 = record {
        state = alike_on dead (client_of way matrix next) move.0 path.0.state alike move.2;
        mine = for_next r h node.monitor path.0.monitor it.mine m next move.0 (same_open move.0 next alike) event step after;
      } in
      let on = on_path once u path.0 last next (longer h event) end rest now path.3 leads in
      let whole : (h ++ with_event event []) ++ rest ≡ h ++ k = append_assoc h (with_event event []) rest ∙ (ap (λ x. h ++ x) (with_event-append event [] rest) ∙ sym (ap (λ x. h ++ x) joined)) in
      subst (λ x. IsNodeFor end x last) whole on

  pub path_for : MovesOnce way → (u : List Move) (first last : Node) (start : State) (end : State) (h : List Event) → start ≡ client_of way matrix s → IsFirst dead start first → MovesLead dead table way first u last → Leads s u end h → IsNodeFor end h last
  path_for once u first last start end h same is_first path leads =
      on_path once u first last s [] end h (record { state = subst (Represents dead first) same is_first.0; mine = for_start first start is_first }) path leads

  -- ---- what the table reads

  none : NoOffence s bound
  none = none_offends c way matrix big bound s table unrolled is are

  reads_beginnings : ReadsPrefixes (IsSerialHistory s) (LeadsTo table)
  reads_beginnings p r z calm =
      let free : NoneStuck p = λ i op e stuck. calm (record { t = op.thread; k = length (entries op.thread (take i p)) }) (entry_stands p i op e ∙ ap Some stuck) in
      let there = begin_rests c big s at bound p r z free in
      let now = is_read c way matrix big bound s table unrolled at are p there.0 there.1 in
      (now.x, now.leads)

  -- ---- at the end

  module _ (u : List Move) (end : State) (h : List Event) (leads : Leads s u end h) where
    on_ground : Leads (start_on (ground_of c s) big) u end h
    on_ground = subst (λ x. Leads x u end h) (grounded c big s is) leads

    made_here : (t : ℕ) → calls t h ≡ made_of end t
    made_here t =
        let run = run_calls s u end h leads t in
        let calm = made_quiet s t (at.quiet t) in
        let zero_done = at.none t in
        omega (arith, run, calm, zero_done)

    done_here : (t : ℕ) → length (outcomes t h) ≡ done_of end t
    done_here t =
        let run = run_returns s u end h leads t in
        let zero_done = at.none t in
        omega (arith, run, zero_done)

    called_fits : (t : ℕ) → calls t h ≤ length (calls_of big t)
    called_fits t = (let few = made_within (ground_of c s) big u end h on_ground t in let same = made_here t in omega (arith, few, same))

    returned : IsComplete end → AllReturned h
    returned complete t =
        let calm = made_quiet end t (complete_not_open end complete t) in
        let made = made_here t in
        let done = done_here t in
        omega (arith, calm, made, done)

    whole : IsComplete end → HasComplete (IsSerialHistory s) (LeadsTo table) h
    whole complete q read counts =
        let room : HasRoomFor big q = λ t. (let few = called_fits t in let same = counts t in omega (arith, few, same)) in
        let now = is_played c way matrix big bound s table unrolled at are q read.0 read.1 room in
        let all : HasAllEntries big q = λ t.
        (let count : length (calls_of end.matrix t) ≡ length (calls_of big t) = ap (λ (x : Matrix). length (calls_of x t)) (leads_matrix s u end h leads ∙ at.matrix_is) in
        let done : call_count end t ≤ done_of end t = complete_done end t (leads_seats s u end h leads at.seats) complete in
        let same = counts t in
        let back = returned complete t in
        let here = done_here t in
        omega (arith, count, done, same, back, here)) in
        (serial_is_played c big s at q).1 (inl (now.rest, now.reached, all))

    module _ (sequential : HasSequentialThreads h) (a : OpId) (waits : IsPending h a) where
      has_stuck : HasStuck (IsSerialHistory s) (LeadsTo table) (λ x. IsStuckFrom (Goes table) x (thread_in a)) h a
      has_stuck q counts =
          let room : HasRoomFor big q = λ t. (let few = called_fits t in let same = counts t in let turn = (in_turn h sequential t).returned in omega (arith, few, same, turn)) in
          let count = pending_count h a sequential waits in
          let fits = called_fits a.t in
          let own = counts a.t in
          let next = within_some (calls_of big a.t) (length (entries a.t q)) (omega (arith, count.0, count.1, fits, own)) in (
            (λ z. stuck_to c way matrix big bound s table unrolled at are q a.t ((stuck_is_played c big s at 0 q a.t).0 z)),
            (λ p. (stuck_is_played c big s at 0 q a.t).1 (stuck_from c way matrix big bound s table unrolled at are q a.t p.0 next.0 next.1 room p.1 p.2)),
          )

    module _ (node : Node) (state : Represents dead node (client_of way matrix end)) where
      open_here : (t : ℕ) → HasOpen node.state t → HasOpen end t
      open_here t o = open_same node.state end (same_open node.state end state) t o

      open_there : (t : ℕ) → HasOpen end t → HasOpen node.state t
      open_there t o = open_same end node.state (λ u. sym (same_open node.state end state u)) t o

    -- an open operation is pending
    open_pending : HasSequentialThreads h → (t : ℕ) → HasOpen end t → IsPending h (record { t = t; k = done_of end t })
    open_pending sequential t o =
        let made = made_here t in
        let done = done_here t in
        let more = made_open end t o in
        is_pending h (record { t = t; k = done_of end t }) sequential (omega (arith, made, more)) (omega (arith, done))

    -- where only some configurations are known
    module _ (m : List Shown) (mine : IsPartFor end h m) where
      part_completes : IsComplete end → m ≢ [] → HasWitness (IsSerialHistory s) h
      part_completes complete some =
          let law = complete_is_configured (IsSerialHistory s) (LeadsTo table) reads_beginnings h mine.sequential (returned complete) (whole complete) in
          law.1 (one_held m some (IsConfiguration (LeadsTo table) h) mine.part)

      part_sticks : (a : OpId) → IsPending h a → CanBeStuck (Goes table) a.t m → HasWitness (IsSerialHistory s) (keep_pending a.t h)
      part_sticks a waits (d, held, stuck) =
          let law = stuck_is_configured (IsSerialHistory s) (LeadsTo table) (λ x k. IsStuckFrom (Goes table) x k) thread_in reads_beginnings (λ q z. (serial_fits c big s q is z).0) h a mine.sequential waits (has_stuck mine.sequential a waits) in
          law.1 (d, mine.part d held, stuck.0, stuck.1)

    module _ (node : Node) (state : Represents dead node (client_of way matrix end)) (mine : IsFor end h node.monitor) where
      completes : IsComplete end → HasWitness (IsSerialHistory s) h ↔ (node.monitor ≢ [])
      completes complete = monitor_completes (IsSerialHistory s) (LeadsTo table) reads_beginnings h node.monitor mine.sequential (returned complete) (whole complete) mine.monitor

      sticks : (a : OpId) → IsPending h a → HasWitness (IsSerialHistory s) (keep_pending a.t h) ↔ CanBeStuck (Goes table) a.t node.monitor
      sticks a waits =
          monitor_sticks (IsSerialHistory s) (LeadsTo table) (Goes table) thread_in reads_beginnings (λ q z. (serial_fits c big s q is z).0) h a node.monitor mine.sequential waits
          (has_stuck mine.sequential a waits) mine.monitor

      -- a good node is one of a good end
      pub good_end : IsEnded end → IsGoodNode table node → IsGoodAt (IsSerialHistory s) end h
      good_end (inl complete) good =
          inl (complete, (completes complete).1 (good.complete (λ t o. complete_not_open end complete t (open_here node state t o))))
      good_end (inr stuck) good =
          inr (stuck, (λ a waits. (sticks a waits).1 (good.stuck a.t (open_there node state a.t (pending_open s u end h leads a waits)))))

      -- and back
      pub good_node : IsGoodAt (IsSerialHistory s) end h → IsGoodNode table node
      good_node (inl good) = record {
        complete = λ _. (completes good.0).0 good.1;
        stuck = λ t o. absurd (complete_not_open end good.0 t (open_here node state t o));
      }
      good_node (inr good) = record {
        complete = λ calm. absurd (good.0.0 (no_open_complete end (λ t o. calm t (open_there node state t o)) good.0.1));
        stuck = λ t o. (let waits = open_pending mine.sequential t (open_here node state t o) in (sticks (record { t = t; k = done_of end t }) waits).0 (good.1 (record { t = t; k = done_of end t }) waits));
      }

  -- ---- before a call

  module _ (r : State) (h : List Event) (agree : Agree (progress r) h) (sequential : HasSequentialThreads h) (m : Move) (next : State) (k : ℕ) (step : Step r m next (Some (Call m.thread k))) where
    call_sequential : HasSequentialThreads (h ++ Call m.thread k ∷ [])
    call_sequential = push_sequential h (Call m.thread k) sequential (step_comes r m next (Call m.thread k) h agree step)

    -- a call that has just been made is pending
    pub call_pending : IsPending (h ++ Call m.thread k ∷ []) (record { t = m.thread; k = k })
    call_pending =
        let t = m.thread in
        let comes = step_comes r m next (Call t k) h agree step in
        let called : calls t (h ++ Call t k ∷ []) ≡ calls t h + (calls t [] + 1) = calls-append t h (Call t k ∷ []) ∙ ap (λ n. calls t h + n) (calls_call t k []) in
        let ended : length (outcomes t (h ++ Call t k ∷ [])) ≡ length (outcomes t h) = ap length (outcomes-append t h (Call t k ∷ []) ∙ append-nil (outcomes t h)) in
        let before = comes.0 in
        let done = comes.1 in
        is_pending (h ++ Call t k ∷ []) (record { t = t; k = k }) call_sequential (omega (arith, called, before)) (omega (arith, ended, done))

    -- it is stuck there exactly where it can be stuck before it
    pub call_sticks : (monitor : List Shown) → IsMonitorOf (LeadsTo table) monitor h → (u : List Move) → Leads s u r h → HasWitness (IsSerialHistory s) (keep_pending m.thread (h ++ Call m.thread k ∷ [])) ↔ CanBeStuck (Goes table) m.thread monitor
    call_sticks monitor exact u leads =
        let a : OpId = record { t = m.thread; k = k } in
        let whole : Leads s (u ++ m ∷ []) next (h ++ Call m.thread k ∷ []) = child_leads s u r h leads m next (Some (Call m.thread k)) step in
        sticks_before (IsSerialHistory s) (LeadsTo table) (Goes table) thread_in (is_automaton table) reads_beginnings (λ q z. (serial_fits c big s q is z).0) h a monitor call_sequential call_pending
        (has_stuck (u ++ m ∷ []) next (h ++ Call m.thread k ∷ []) whole call_sequential a call_pending) exact

  -- and so it is where only some configurations before it are known
  call_part : (r : State) (h : List Event) (monitor : List Shown) → IsPartFor r h monitor → (m : Move) (next : State) (k : ℕ) → Step r m next (Some (Call m.thread k)) → (u : List Move) → Leads s u r h → CanBeStuck (Goes table) m.thread monitor → HasWitness (IsSerialHistory s) (keep_pending m.thread (h ++ Call m.thread k ∷ []))
  call_part r h monitor mine m next k step u leads can =
      let a : OpId = record { t = m.thread; k = k } in
      let whole : Leads s (u ++ m ∷ []) next (h ++ Call m.thread k ∷ []) = child_leads s u r h leads m next (Some (Call m.thread k)) step in
      let sequential = call_sequential r h mine.agree mine.sequential m next k step in
      let waits = call_pending r h mine.agree mine.sequential m next k step in
      part_before (IsSerialHistory s) (LeadsTo table) (Goes table) thread_in (is_automaton table) reads_beginnings (λ q z. (serial_fits c big s q is z).0) h a monitor sequential waits
      (has_stuck (u ++ m ∷ []) next (h ++ Call m.thread k ∷ []) whole sequential a waits) mine.part can

  -- so it can be, where the history with the call is good
  pub good_call : (u : List Move) (r : State) (h : List Event) (monitor : List Shown) (m : Move) (end : State) (last : List Event) → Leads s u r h → IsFor r h monitor → IsIdle r m.thread → Leads r (m ∷ []) end last → IsGoodAt (IsSerialHistory s) end (h ++ last) → CanBeStuck (Goes table) m.thread monitor
  good_call u r h monitor m end last leads mine is (next, e, rest, one, (same, none), joined) good =
      let t = m.thread in
      let k = is.0 in
      let a : OpId = record { t = t; k = k } in
      let called : e ≡ Some (Call t k) = call_event r m next e is one in
      let call : Step r m next (Some (Call t k)) = subst (Step r m next) called one in
      let whole : last ≡ Call t k ∷ [] = joined ∙ (ap (with_event e) none ∙ ap (λ x. with_event x []) called) in
      let begun : IsAtWork end t k = subst (λ x. IsAtWork x t k) (sym same) (call_begins r m next (Some (Call t k)) is call) in
      let waits : IsPending (h ++ last) a = subst (λ x. IsPending (h ++ x) a) (sym whole) (call_pending r h mine.agree mine.sequential m next k call) in
      elim good as (λ _. CanBeStuck (Goes table) t monitor) [
        | inl complete ↦ absurd (complete_not_open end complete.0 t (work_open end t k begun))
        | inr stuck ↦ (call_sticks r h mine.agree mine.sequential m next k call monitor mine.monitor u leads).0 (subst (λ x. HasWitness (IsSerialHistory s) (keep_pending t (h ++ x))) whole (stuck.1 a waits))
      ]

  -- an open operation has as many picks in a node's state
  pub node_picks : (r x : State) → r.component ≡ c → AreAlike dead (client_of way matrix r) x → (t : ℕ) → HasOpen r t → picks_of x t ≡ picks_of r t
  node_picks r x component alike t busy =
      picks_alike dead (client_of way matrix r) x (sound_at r component) alike t ∙ client_picks way matrix r t busy

  -- ---- a list of nodes that has all to which steps lead

  module _ (start : State) (list : List Node) (nodes : AreStepNodes dead table way start list) where
    -- one of the list is for the state, and its configurations are some of the history
    record HasPart (r : State) (h : List Event) : Type 0 where
      node : Node
      among : IsIn list node
      state : Represents dead node (client_of way matrix r)
      mine : IsPartFor r h node.monitor

    -- wherever the moves of a step lead
    along : (u : List Move) (r x : State) (h : List Event) (monitor : List Shown) (end : State) (k : List Event) → AreAlike dead (client_of way matrix r) x → IsPartFor r h monitor → HasNodeAfter dead table way list x u monitor → Leads r u end k → HasPart end (h ++ k)
    along [] r x h monitor end k alike mine (node, among, state, less) leads =
        let here : HasPart r h = record { node = node; among = among; state = alike_on dead (client_of way matrix r) x node.state alike state; mine = part_less r h monitor node.monitor less mine } in
        subst (λ y. HasPart y (h ++ k)) (sym leads.0) (subst (HasPart r) (sym (ap (λ y. h ++ y) leads.1 ∙ append-nil h)) here)
    along (m ∷ u) r x h monitor end k alike mine after (next, event, rest, step, leads, joined) =
        let to = move_to_client way matrix r m next event (of_next r mine.matrix_is) step in
        let there = client_alike dead way (client_of way matrix r) x (sound_at r mine.component_is) alike m (client_of way matrix next) (option_map (event_in way matrix) event) to in
        let on = after there.0 (option_map (event_in way matrix) event) there.1 in
        let now : IsPartFor next (longer h event) on.0 = part_next r h monitor on.0 mine m next there.0 (same_open there.0 next there.2) event step on.1 in
        let whole : (h ++ with_event event []) ++ rest ≡ h ++ k = append_assoc h (with_event event []) rest ∙ (ap (λ y. h ++ y) (with_event-append event [] rest) ∙ sym (ap (λ y. h ++ y) joined)) in
        subst (HasPart end) whole (along u next there.0 (longer h event) on.0 end rest there.2 now on.2 leads)

    -- a schedule leads there, and there is a node
    record HasReached (r : State) (h : List Event) : Type 0 where
      has : HasPart r h
      schedule : List Move
      leads : Leads s schedule r h

    same_places : (r : State) (h : List Event) (it : HasReached r h) → HaveSamePlaces r it.has.node.state
    same_places r h it = places_on r (client_of way matrix r) it.has.node.state (client_places way matrix r) (alike_places dead (client_of way matrix r) it.has.node.state it.has.state)

    reached_on : (r : State) (h : List Event) (step : List Move) (next : State) (first : List Event) → HasReached r h → IsOneStep r step → Leads r step next first → HasReached next (h ++ first)
    reached_on r h step next first it one leads =
        let node = it.has.node in
        let after = nodes.closed node step it.has.among (one_step_there r node.state (same_places r h it) step one) in
        record {
          has = along step r node.state h node.monitor next first it.has.state it.has.mine after leads;
          schedule = it.schedule ++ step;
          leads = leads_on s it.schedule step r next h first it.leads leads;
        }

    reached_first : start ≡ client_of way matrix s → HasReached s []
    reached_first same =
        let first = nodes.starts in
        record {
          has = record { node = first.0; among = first.1; state = subst (Represents dead first.0) same first.2.0; mine = part_of s [] first.0.monitor (for_start first.0 start first.2) };
          schedule = [];
          leads = (refl, refl);
        }

    module _ (r : State) (h : List Event) (it : HasReached r h) (blocked : AreAllBlocked r) where
      abbrev node : Node
      node = it.has.node

      node_blocked : AllBlocked node.state
      node_blocked t o =
          let here = open_here it.schedule r h it.leads node it.has.state t o in
          node_picks r node.state it.has.mine.component_is it.has.state t here ∙ blocked.begun t (open_not_idle r t here)

      good_there : IsGoodBeforeCalls table way node
      good_there = nodes.good node it.has.among node_blocked

      good_open : (t k : ℕ) → IsAtWork r t k → HasWitness (IsSerialHistory s) (keep_pending t h)
      good_open t k begun =
          let o = work_open r t k begun in
          let waits = open_pending it.schedule r h it.leads it.has.mine.sequential t o in
          part_sticks it.schedule r h it.leads node.monitor it.has.mine (record { t = t; k = done_of r t }) waits
          (good_there.good.stuck t (open_there it.schedule r h it.leads node it.has.state t o))

      good_next : (t k : ℕ) → slice_get r.threads t ≡ Some (idle k) → k < call_count r t → HasWitness (IsSerialHistory s) (keep_pending t (h ++ Call t k ∷ []))
      good_next t k stands left =
          let m : Move = record { thread = t; pick = 0 } in
          let idle_here : IsIdle r t = (k, stands) in
          let one : picks_of r t ≡ 1 = rw (stands, lt-ltb k (call_count r t) left) refl in
          let go = feasible_step r m (omega (arith, one)) in
          let next = go.0 in
          let made : go.1 ≡ Some (Call t k) = call_event r m next go.1 idle_here go.2 in
          let step : Step r m next (Some (Call t k)) = subst (Step r m next) made go.2 in
          let to = move_to_client way matrix r m next (Some (Call t k)) (of_next r it.has.mine.matrix_is) step in
          let on = client_alike dead way (client_of way matrix r) node.state (sound_at r it.has.mine.component_is) it.has.state m (client_of way matrix next) (option_map (event_in way matrix) (Some (Call t k))) to in
          let begun : IsAtWork next t k = call_begins r m next (Some (Call t k)) idle_here step in
          let o = work_open next t k begun in
          let component : next.component ≡ c = (step_moved r m next (Some (Call t k)) step).component ∙ it.has.mine.component_is in
          let none = none_by (picks_of on.0 t) (picks_of next t) (node_picks next on.0 component on.2 t o) (blocked.next m next (Some (Call t k)) idle_here step) in
          let stuck : CanBeStuck (Goes table) t node.monitor =
          good_there.next m (idle_there r node.state (same_places r h it) t idle_here, (on.0, option_map (event_in way matrix) (Some (Call t k)), on.1, none)) in
          call_part r h node.monitor it.has.mine m next k step it.schedule it.leads stuck

      good_before : IsGoodBefore (IsSerialHistory s) r h
      good_before = record {
        complete = λ complete.
            part_completes it.schedule r h it.leads node.monitor it.has.mine complete
            (good_there.good.complete (λ t o. complete_not_open r complete t (open_here it.schedule r h it.leads node it.has.state t o)));
        begun = good_open;
        next = good_next;
      }

    -- so each schedule that ends is good
    pub ends_well_by_steps : (guarded : List Bool) → TellsGuarded c guarded → start ≡ client_of way matrix s → EndsWell (IsSerialHistory s) s
    ends_well_by_steps guarded told same =
        ends_well HasReached reached_on (IsSerialHistory s) c big guarded s told is (reached_first same) good_before
