-- Steps that are made from a node, and nodes that are visited one after another.
use Rattle.std.proofs.Common.{arith, ◌≡◌, ◌⊎◌, ℕ, zero, suc, ◌+◌, ◌<◌, ◌≤◌, Bool, true, false, if◌then◌else◌, List, [], ◌∷◌, length, Option, Some, None, slice_get, refl, sym, ◌∙◌, ap, subst, inl, inr}
use Rattle.std.specs.Prelude.{nat_lt}
use Rattle.std.specs.Option.{option_map_or}
use Rattle.std.proofs.lemmas.Bool.{cases_lt}
use Rattle.std.proofs.lemmas.Option.{same_Some}
use Rattle.lu_test.specs.declared.schedule.Move.{Move}
use Rattle.lu_machine.specs.declared.event.Event.{Event}
use Rattle.lu_machine.specs.declared.thread.Activity.{Activity}
use Rattle.lu_machine.specs.declared.thread.Activity.TheVariants.{Idle, Open}
use Rattle.lu_machine.specs.declared.thread.Thread.{Thread}
use Rattle.lu_machine.specs.Changes.{idle}
use Rattle.lu_machine.specs.States.{State, call_count}
use Rattle.lu_machine.specs.Steps.{picks_of}
use Rattle.lu_horizon.specs.Dead.{DeadTable}
use Rattle.lu_serial.specs.Serial.{HasOpen}
use Rattle.lu_tree.proofs.Alike.{alike_itself}
use Rattle.lu_graph.specs.Growing.{TakeTurns}
use Rattle.lu_late.specs.Steps.{IsIdle}
use Rattle.lu_linearization.specs.declared.configuration.Configuration.{Configuration as Shown}
use Rattle.lu_client.specs.Clients.{ClientStep}
use Rattle.lu_client.specs.Stages.{IsIn}
use Rattle.lu_answers.specs.declared.rounds.Rounds.{Rounds}
use Rattle.lu_answers.specs.Tables.{Rows, table_of}
use Rattle.lu_answers.specs.Ways.{limit_of, way_of}
use Rattle.lu_always.specs.declared.judging.Judged.TheVariants.{Good}
use Rattle.lu_always.specs.declared.steps.Origin.{Origin}
use Rattle.lu_always.specs.declared.stored.Arrival.{Arrival}
use Rattle.lu_always.specs.Stored.{StoredNode}
use Rattle.lu_always.specs.Nodes.{IsAfterMove, IsMove, Node}
use Rattle.lu_always.specs.Searching.{Adds, AddsAt, AddsBy, AddsFrom, AllCanStand, ComesFrom, Grows, HasNext, HoldsOf, IsStoredFor, Leads, node_at, node_of}
use Rattle.lu_always.specs.StepSearch.{AddsMoves, AreStepped, HasCall, HasMoves, HasSteps, HasStepsOf, IsJudged, IsJudgedIn}
use Rattle.lu_always.proofs.Exiting.{client_feasible}
use Rattle.lu_always.proofs.Keeping.{arrivals_more, base_node, first_arrivals, first_more, grows_none, grows_on, in_more, moved_base, next_more}
use Rattle.lu_always.proofs.Likeness.{in_order_once}

-- ---- as the list grows

moves_more : (dead : DeadTable) (rounds : Rounds) (rows : Rows) (s : State) (old new : List StoredNode) → Grows s old new → (node : Node) (t : ℕ) → HasMoves dead rounds rows old node t → HasMoves dead rounds rows new node t
moves_more dead rounds rows s old new grows node t has m is = next_more dead rounds rows s old new grows node m (has m is)

call_more : (dead : DeadTable) (rounds : Rounds) (rows : Rows) (s : State) (old new : List StoredNode) → Grows s old new → (node : Node) (m : Move) → HasCall dead rounds rows old node m → HasCall dead rounds rows new node m
call_more dead rounds rows s old new grows node m has b event step =
    let (after, is, moves) = has b event step in
    (after, is, moves_more dead rounds rows s old new grows (node_at b after) m.thread moves)

steps_more : (dead : DeadTable) (rounds : Rounds) (rows : Rows) (s : State) (old new : List StoredNode) → Grows s old new → (node : Node) (t : ℕ) → HasStepsOf dead rounds rows old node t → HasStepsOf dead rounds rows new node t
steps_more dead rounds rows s old new grows node t has = record {
  moves = λ busy. moves_more dead rounds rows s old new grows node t (has.moves busy);
  calls = λ m is rests. call_more dead rounds rows s old new grows node m (has.calls m is rests);
}

pub all_steps_more : (dead : DeadTable) (rounds : Rounds) (rows : Rows) (s : State) (old new : List StoredNode) → Grows s old new → (node : Node) → HasSteps dead rounds rows old node → HasSteps dead rounds rows new node
all_steps_more dead rounds rows s old new grows node has m can first = steps_more dead rounds rows s old new grows node m.thread (has m can first)

-- ---- the moves of one thread

-- its picks before this one
pub record MovesBefore (dead : DeadTable) (rounds : Rounds) (rows : Rows) (s : State) (monitor : List Shown) (origin : Origin) (t : ℕ) (old : List StoredNode) (machine : State) (all : List StoredNode) (p : ℕ) : Type 0 where
  pub machine_is : machine ≡ s
  pub grows : Grows s old all
  pub before : (m : Move) → m.thread ≡ t → m.pick < p → HasNext dead rounds rows all (node_at s monitor) m
  pub adds : AddsMoves dead rounds rows s monitor origin old all

module _ (dead : DeadTable) (rounds : Rounds) (rows : Rows) (s : State) (monitor : List Shown) (origin : Origin) (t : ℕ) (old : List StoredNode) where
  pub moves_none : MovesBefore dead rounds rows s monitor origin t old s old 0
  moves_none = record { machine_is = refl; grows = grows_none s old; before = λ m is lt. absurd (omega (arith, lt)); adds = λ kept at. inl at }

  pub moves_next : (machine next : State) (all new : List StoredNode) (p : ℕ) (a : Arrival) → a.parent ≡ origin.index → a.call ≡ origin.call → a.by ≡ record { thread = t; pick = p } → MovesBefore dead rounds rows s monitor origin t old machine all p → next ≡ machine → Grows machine all new → HasNext dead rounds rows new (node_at machine monitor) a.by → AddsBy dead rounds rows machine monitor a all new → MovesBefore dead rounds rows s monitor origin t old next new (p + 1)
  moves_next machine next all new p a from called by far home grows has adds =
      let more : Grows s all new = subst (λ x. Grows x all new) far.machine_is grows in
      let here : HasNext dead rounds rows new (node_at s monitor) a.by = subst (λ x. HasNext dead rounds rows new (node_at x monitor) a.by) far.machine_is has in
      record {
        machine_is = home ∙ far.machine_is;
        grows = grows_on s old all new far.grows more;
        before = λ m is lt. elim (cases_lt m.pick p) as (λ _. HasNext dead rounds rows new (node_at s monitor) m) [
          | inl less ↦ next_more dead rounds rows s all new more (node_at s monitor) m (far.before m is less)
          | inr past ↦
              (let pick : m.pick ≡ p = omega (arith, lt, past) in
              let same : m ≡ record { thread = t; pick = p } = ap (λ (x : ℕ). let y : Move = record { thread = x; pick = m.pick } in y) is ∙ ap (λ (x : ℕ). let y : Move = record { thread = t; pick = x } in y) pick in
              subst (HasNext dead rounds rows new (node_at s monitor)) (by ∙ sym same) here)
        ];
        adds = λ kept at.
            elim (subst (λ x. AddsBy dead rounds rows x monitor a all new) far.machine_is adds kept at) as (λ _. IsIn old kept ⊎ ((it : Arrival) × (kept.arrival ≡ Some it) × (it.parent ≡ origin.index) × (it.call ≡ origin.call) × Leads dead rounds rows (node_at s monitor) (it.by ∷ []) (node_of s kept))) [
              | inl earlier ↦ far.adds kept earlier
              | inr mine ↦ inr (a, mine.0, from, called, mine.1)
            ];
      }

  pub moves_all : (machine : State) (all : List StoredNode) (p : ℕ) → picks_of s t ≤ p → MovesBefore dead rounds rows s monitor origin t old machine all p → HasMoves dead rounds rows all (node_at s monitor) t
  moves_all machine all p past far m is b event step =
      let can = client_feasible rounds s m b event step in
      let few : picks_of s m.thread ≤ p = subst (λ x. picks_of s x ≤ p) (sym is) past in
      far.before m is (omega (arith, can, few)) b event step

-- moves from the node that is stored at the index, alone
pub adds_alone : (dead : DeadTable) (rounds : Rounds) (rows : Rows) (s : State) (monitor : List Shown) (index : ℕ) (old new : List StoredNode) → (let o : Origin = record { index = index; call = None } in AddsMoves dead rounds rows s monitor o old new) → Adds dead rounds rows s monitor index old new
adds_alone dead rounds rows s monitor index old new adds kept at =
    elim (adds kept at) as (λ _. IsIn old kept ⊎ ComesFrom dead rounds rows s index (node_at s monitor) kept) [
      | inl before ↦ inl before
      | inr (a, is, from, called, leads) ↦
          inr (a, is, from, subst (λ (u : List Move). Leads dead rounds rows (node_at s monitor) u (node_of s kept)) (sym (ap (λ (o : Option Move). option_map_or (λ m. m ∷ a.by ∷ []) o (a.by ∷ [])) called)) leads)
    ]

-- ---- a call, with the moves after it

module _ (dead : DeadTable) (rounds : Rounds) (rows : Rows) (a : State) (monitor : List Shown) (call : Move) (b : State) (event : Option Event) (after : List Shown) (step : ClientStep (way_of rounds) a call b event) (is : IsAfterMove (table_of [] rows) b event monitor after) where
  pub call_made : (all : List StoredNode) → HasMoves dead rounds rows all (node_at b after) call.thread → HasCall dead rounds rows all (node_at a monitor) call
  call_made all moves other others also =
      let same = in_order_once (limit_of rounds) a call b other event others step also in (
        after,
        subst (λ e. IsAfterMove (table_of [] rows) other e monitor after) same.1 (subst (λ x. IsAfterMove (table_of [] rows) x event monitor after) same.0 is),
        subst (λ x. HasMoves dead rounds rows all (node_at x after) call.thread) same.0 moves,
      )

  pub adds_called : (index : ℕ) (old new : List StoredNode) → (let o : Origin = record { index = index; call = Some call } in AddsMoves dead rounds rows b after o old new) → Adds dead rounds rows a monitor index old new
  adds_called index old new adds kept at =
      elim (adds kept at) as (λ _. IsIn old kept ⊎ ComesFrom dead rounds rows a index (node_at a monitor) kept) [
        | inl before ↦ inl before
        | inr (it, by, from, called, leads) ↦
            (let made : IsMove dead (table_of [] rows) (way_of rounds) (node_at a monitor) call event (node_at b after) = (b, step, alike_itself dead b, is) in
            let there : Leads dead rounds rows (node_at b after) (it.by ∷ []) (node_of a kept) = subst (λ (x : Node). Leads dead rounds rows (node_at b after) (it.by ∷ []) x) (base_node a b kept (moved_base rounds a call b event step)) leads in
            let both : Leads dead rounds rows (node_at a monitor) (call ∷ it.by ∷ []) (node_of a kept) = (node_at b after, event, made, there) in
            inr (it, by, from, subst (λ (u : List Move). Leads dead rounds rows (node_at a monitor) u (node_of a kept)) (sym (ap (λ (o : Option Move). option_map_or (λ m. m ∷ it.by ∷ []) o (it.by ∷ [])) called)) both))
      ]

-- ---- the steps of one thread

-- a thread that is idle has no open operation
pub idle_shut : (s : State) (t : ℕ) → IsIdle s t → HasOpen s t → ⊥
idle_shut s t (k, at) (thread, is, busy) =
    busy (ap (λ (x : Thread). x.activity) (same_Some thread (idle k) (sym is ∙ at)))

-- one that has neither cannot move
pub shut_idle : (s : State) (t : ℕ) → (HasOpen s t → ⊥) → 0 < picks_of s t → IsIdle s t
shut_idle s t shut can = by (slice_get s.threads t) refl
  where
    with_activity : (thread : Thread) (activity : Activity) → thread.activity ≡ activity → slice_get s.threads t ≡ Some thread → IsIdle s t
    with_activity thread Idle is at = (thread.done, at ∙ ap (λ (x : Activity). let y : Thread = record { done = thread.done; activity = x } in Some y) is)
    with_activity thread (Open f) is at = absurd (shut (thread, at, (λ e. let clash : Open f ≡ Idle = sym is ∙ e in cc)))

    by : (o : Option Thread) → slice_get s.threads t ≡ o → IsIdle s t
    by None at = absurd (let none : picks_of s t ≡ 0 = rw at refl in omega (arith, can, none))
    by (Some thread) at = with_activity thread thread.activity refl at

-- an idle thread has one move at most
pub idle_once : (s : State) (t : ℕ) → IsIdle s t → picks_of s t ≤ 1
idle_once s t (k, at) = rw at (few (nat_lt k (call_count s t)))
  where
    few : (b : Bool) → (if b then suc zero else zero) ≤ suc zero
    few true = omega arith
    few false = omega arith

module _ (dead : DeadTable) (rounds : Rounds) (rows : Rows) (s : State) (monitor : List Shown) (t : ℕ) (all : List StoredNode) where
  pub steps_open : HasOpen s t → HasMoves dead rounds rows all (node_at s monitor) t → HasStepsOf dead rounds rows all (node_at s monitor) t
  steps_open busy has = record { moves = λ _. has; calls = λ m is rests. absurd (idle_shut s t rests busy) }

  pub steps_none : picks_of s t ≡ 0 → HasStepsOf dead rounds rows all (node_at s monitor) t
  steps_none none = record {
    moves = λ busy m is b event step. absurd (never m b event is step);
    calls = λ m is rests b event step. absurd (never m b event is step);
  }
    where
      never : (m : Move) (b : State) (event : Option Event) → m.thread ≡ t → ClientStep (way_of rounds) s m b event → ⊥
      never m b event is step =
          let can = client_feasible rounds s m b event step in
          let zero_picks : picks_of s m.thread ≡ 0 = ap (picks_of s) is ∙ none in
          absurd (omega (arith, can, zero_picks))

  pub steps_call : (HasOpen s t → ⊥) → 0 < picks_of s t → (let call : Move = record { thread = t; pick = 0 } in HasCall dead rounds rows all (node_at s monitor) call) → HasStepsOf dead rounds rows all (node_at s monitor) t
  steps_call shut can has = record {
    moves = λ busy. absurd (busy (shut_idle s t shut can));
    calls = λ m is rests b event step.
        (let few = idle_once s t rests in
        let made = client_feasible rounds s m b event step in
        let picks : picks_of s m.thread ≡ picks_of s t = ap (picks_of s) is in
        let pick : m.pick ≡ 0 = omega (arith, few, made, picks) in
        let same : m ≡ record { thread = t; pick = 0 } = ap (λ (x : ℕ). let y : Move = record { thread = x; pick = m.pick } in y) is ∙ ap (λ (x : ℕ). let y : Move = record { thread = t; pick = x } in y) pick in
        subst (λ x. HasCall dead rounds rows all (node_at s monitor) x) (sym same) has b event step);
  }

-- ---- the steps of all threads

-- of the threads from `first` to before t
pub record StepsBefore (dead : DeadTable) (rounds : Rounds) (rows : Rows) (s : State) (monitor : List Shown) (index first : ℕ) (old : List StoredNode) (machine : State) (all : List StoredNode) (t : ℕ) : Type 0 where
  pub machine_is : machine ≡ s
  pub grows : Grows s old all
  pub before : (u : ℕ) → first ≤ u → u < t → HasStepsOf dead rounds rows all (node_at s monitor) u
  pub adds : AddsFrom dead rounds rows s index (node_at s monitor) old all

module _ (dead : DeadTable) (rounds : Rounds) (rows : Rows) (s : State) (monitor : List Shown) (index first : ℕ) (old : List StoredNode) where
  pub threads_none : StepsBefore dead rounds rows s monitor index first old s old first
  threads_none = record { machine_is = refl; grows = grows_none s old; before = λ u le lt. absurd (omega (arith, le, lt)); adds = λ kept at. inl at }

  pub threads_next : (machine next : State) (all new : List StoredNode) (t : ℕ) → StepsBefore dead rounds rows s monitor index first old machine all t → next ≡ machine → Grows machine all new → HasStepsOf dead rounds rows new (node_at machine monitor) t → Adds dead rounds rows machine monitor index all new → StepsBefore dead rounds rows s monitor index first old next new (t + 1)
  threads_next machine next all new t far home grows has adds =
      let more : Grows s all new = subst (λ x. Grows x all new) far.machine_is grows in
      record {
        machine_is = home ∙ far.machine_is;
        grows = grows_on s old all new far.grows more;
        before = λ u le lt. elim (cases_lt u t) as (λ _. HasStepsOf dead rounds rows new (node_at s monitor) u) [
          | inl less ↦ steps_more dead rounds rows s all new more (node_at s monitor) u (far.before u le less)
          | inr past ↦
              (let same : u ≡ t = omega (arith, lt, past) in
              subst (λ x. HasStepsOf dead rounds rows new (node_at s monitor) x) (sym same) (subst (λ x. HasStepsOf dead rounds rows new (node_at x monitor) t) far.machine_is has))
        ];
        adds = λ kept at.
            elim (subst (λ x. AddsFrom dead rounds rows x index (node_at x monitor) all new) far.machine_is adds kept at) as (λ _. IsIn old kept ⊎ ComesFrom dead rounds rows s index (node_at s monitor) kept) [
              | inl earlier ↦ far.adds kept earlier
              | inr mine ↦ inr mine
            ];
      }

  pub threads_all : (machine : State) (all : List StoredNode) (end t : ℕ) → TakeTurns s first end → end ≤ t → StepsBefore dead rounds rows s monitor index first old machine all t → HasSteps dead rounds rows all (node_at s monitor)
  threads_all machine all end t turns past far m can goes =
      let (from, lt) = (turns m can).0 goes in
      far.before m.thread from (omega (arith, lt, past))

-- ---- node after node

pub stepped_none : (dead : DeadTable) (rounds : Rounds) (rows : Rows) (first : List Shown) (s : State) (all : List StoredNode) (one : StoredNode) → IsIn all one → AllCanStand s all → ((kept : StoredNode) → IsIn all kept → IsStoredFor (node_at s first) kept × (kept.arrival ≡ None)) → AreStepped dead rounds rows first s 0 all
stepped_none dead rounds rows first s all one among can only = record {
  starts = (one, among, (only one among).0);
  arrivals = first_arrivals dead rounds rows first s all only;
  stand = can;
  closed = λ i lt kept at. absurd (omega (arith, lt));
  good = λ i lt kept at. absurd (omega (arith, lt));
}

pub stepped_next : (dead : DeadTable) (rounds : Rounds) (rows : Rows) (first : List Shown) (s : State) (n : ℕ) (all new : List StoredNode) → n < length all → AreStepped dead rounds rows first s n all → Grows s all new → IsJudgedIn rounds rows s all n Good → HoldsOf s all n (HasSteps dead rounds rows new) → AddsAt dead rounds rows s n all new → AreStepped dead rounds rows first s (n + 1) new
stepped_next dead rounds rows first s n all new within are grows good steps adds = record {
  starts = (are.starts.0, in_more s all new grows are.starts.0 are.starts.1, are.starts.2);
  arrivals = arrivals_more dead rounds rows first s n all new within are.arrivals grows adds;
  stand = grows.stand are.stand;
  closed = first_more s n all new (λ list node. HasSteps dead rounds rows list node) within grows (λ node has. all_steps_more dead rounds rows s all new grows node has) are.closed steps;
  good = first_more s n all new (λ list node. IsJudged rounds rows node Good) within grows (λ node is. is) are.good good;
}
