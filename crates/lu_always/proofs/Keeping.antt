-- Nodes that are kept.
use Rattle.std.proofs.Common.{arith, ◌≡◌, ◌⊎◌, map, ℕ, zero, suc, ◌+◌, ◌<◌, ◌≤◌, List, [], ◌∷◌, ◌++◌, length, Option, Some, None, Result, Ok, Err, IfOk, slice_get, refl, sym, ◌∙◌, ap, subst, inl, inr, append_assoc, length-append}
use Rattle.std.proofs.lemmas.Bool.{cases_lt}
use Rattle.std.proofs.lemmas.List.{append-nil}
use Rattle.std.proofs.lemmas.Option.{same_Some, slice_get-map, slice_get_past, slice_get_within}
use Rattle.std.specs.Prelude.{OnOk}
use Rattle.std.specs.Option.{option_and_then, option_map}
use Rattle.lu_test.specs.declared.schedule.Move.{Move}
use Rattle.lu_machine.specs.declared.event.Event.{Event}
use Rattle.lu_machine.specs.declared.event.Event.TheVariants.{Call, Return}
use Rattle.lu_machine.specs.declared.position.Position.{Position}
use Rattle.lu_machine.specs.Positions.{CanStand, CanStandAt, at_position}
use Rattle.lu_machine.specs.States.{State}
use Rattle.lu_machine.specs.Steps.{picks_of}
use Rattle.lu_machine.proofs.Keeping.{step_moved}
use Rattle.lu_machine.proofs.StepLaws.{step_feasible}
use Rattle.lu_horizon.specs.Dead.{DeadTable}
use Rattle.lu_history.proofs.Events.{at_push, kept_at}
use Rattle.lu_linearization.specs.declared.configuration.Configuration.{Configuration as Shown}
use Rattle.lu_tree.specs.Alike.{AreAlike}
use Rattle.lu_tree.proofs.Alike.{alike_itself}
use Rattle.lu_client.proofs.Clients.{moves_in_order}
use Rattle.lu_client.specs.Clients.{ClientStep}
use Rattle.lu_client.specs.Stages.{IsIn, Stage}
use Rattle.lu_client.proofs.OneCalls.{within_some}
use Rattle.lu_always.specs.declared.stored.Arrival.{Arrival}
use Rattle.lu_always.specs.Stored.{CanStandAtStored, HasMonitorAt, StandsAt, StandsWhereItCan, StoredNode, StoredPosition, Stores, at_stored, position_in, stored_for}
use Rattle.lu_always.specs.Clearing.{IsCleared}
use Rattle.lu_always.specs.Searching.{AddsAt, AddsBy, AddsFrom, AddsOnly, AllCanStand, AreArrivals, ComesFrom, Grows, HasNext, HoldsOf, IsArrival, IsCoveredAt, IsStoredFor, Leads, MonitorAfter, StoresAfter, moves_of, node_at, node_of}
use Rattle.lu_always.specs.Ways.{AreBack, HasParentsBefore, IsWayTo, all_moves, arrival_at}
use Rattle.lu_always.specs.Livelocks.{AreAllNodes}
use Rattle.lu_always.specs.Nodes.{IsAfterMove, IsMove, MovesLead, Node, Represents}
use Rattle.lu_answers.specs.declared.rounds.Rounds.{Rounds}
use Rattle.lu_answers.specs.Tables.{Rows, Table, table_of}
use Rattle.lu_answers.specs.Ways.{limit_of, way_of}
use Rattle.lu_always.proofs.Cleared.{cleared_alike}
use Rattle.lu_always.proofs.Likeness.{in_order_once}

pub grows_none : (s : State) (all : List StoredNode) → Grows s all all
grows_none s all = record { more = []; parts = sym (append-nil all); stand = λ can. can }

pub grows_on : (s : State) (a b c : List StoredNode) → Grows s a b → Grows s b c → Grows s a c
grows_on s a b c x y = record {
  more = x.more ++ y.more;
  parts = y.parts ∙ (ap (λ (z : List StoredNode). z ++ y.more) x.parts ∙ append_assoc a x.more y.more);
  stand = λ can. y.stand (x.stand can);
}

pub grows_one : (s : State) (all : List StoredNode) (kept : StoredNode) → CanStandAtStored s.component s.matrix kept.position → Grows s all (all ++ kept ∷ [])
grows_one s all kept can = record {
  more = kept ∷ [];
  parts = refl;
  stand = λ old other is.
      elim (at_push all kept other is.0 is.1) as (λ _. CanStandAtStored s.component s.matrix other.position) [
        | inl before ↦ old other (is.0, before.1)
        | inr last ↦ subst (λ (x : StoredNode). CanStandAtStored s.component s.matrix x.position) (sym last.1) can
      ];
}

-- a position of lu_machine
abbrev pub stored_position : Position → StoredPosition
stored_position p = record { cells = p.cells.items; locks = p.locks.items; threads = p.threads.items }

-- a machine stands where it can
pub position_stands : (s : State) (p : Position) → at_position s p ≡ s → CanStandAt s.component s.matrix p → StandsWhereItCan s
position_stands s p here can =
    subst (λ (x : State). CanStand s.component s.matrix x.cells x.locks x.threads) here can

-- ---- a node that was stored

pub stores_grows : (s : State) (monitor : List Shown) (arrival : Option Arrival) (old new : List StoredNode) (index : ℕ) → CanStandAtStored s.component s.matrix (position_in s) → Stores s monitor arrival old new index → Grows s old new
stores_grows s monitor arrival old new index can stores =
    elim stores.only as (λ _. Grows s old new) [
      | inl same ↦ subst (Grows s old) (sym same) (grows_none s old)
      | inr more ↦ subst (Grows s old) (sym more) (grows_one s old (stored_for s monitor arrival) can)
    ]

pub stores_covered : (s : State) (monitor : List Shown) (arrival : Option Arrival) (old new : List StoredNode) (index : ℕ) → Stores s monitor arrival old new index → IsCoveredAt new index (node_at s monitor)
stores_covered s monitor arrival old new index stores = (stores.stored, stores.at, (ap (at_stored s) stores.position, stores.within))

pub in_more : (s : State) (old new : List StoredNode) → Grows s old new → (kept : StoredNode) → IsIn old kept → IsIn new kept
in_more s old new grows kept is = (is.0, ap (λ (x : List StoredNode). slice_get x is.0) grows.parts ∙ kept_at old grows.more kept is.0 is.1)

pub monitor_more : (s : State) (old new : List StoredNode) → Grows s old new → (index : ℕ) (monitor : List Shown) → HasMonitorAt old index monitor → HasMonitorAt new index monitor
monitor_more s old new grows index monitor has = (
  has.0,
  ap (λ (x : List StoredNode). slice_get x index) grows.parts ∙ kept_at old grows.more has.0 index has.1,
  has.2,
)

pub longer : (s : State) (old new : List StoredNode) → Grows s old new → (index : ℕ) → index < length old → index + 1 ≤ length new
longer s old new grows index within =
    let parts : length new ≡ length old + length grows.more = ap (λ (x : List StoredNode). length x) grows.parts ∙ length-append old grows.more in
    omega (arith, parts, within)

pub next_more : (dead : DeadTable) (rounds : Rounds) (rows : Rows) (s : State) (old new : List StoredNode) → Grows s old new → (node : Node) (m : Move) → HasNext dead rounds rows old node m → HasNext dead rounds rows new node m
next_more dead rounds rows s old new grows node m next b event step = let x = next b event step in (x.0, in_more s old new grows x.0 x.1, x.2, x.3)

-- ---- one move

pub record SameBase (a b : State) : Type 0 where
  pub component : b.component ≡ a.component
  pub matrix_is : b.matrix ≡ a.matrix

pub moved_base : (rounds : Rounds) (a : State) (m : Move) (b : State) (event : Option Event) → ClientStep (way_of rounds) a m b event → SameBase a b
moved_base rounds a m b event step =
    let moved = step_moved (let x : State = record a { matrix = step.0 } in x) m step.2.0 event step.2.1 in
    record {
      component = ap (λ (x : State). x.component) step.2.2 ∙ moved.component;
      matrix_is = ap (λ (x : State). x.matrix) step.2.2;
    }

pub base_stand : (a b : State) (p : StoredPosition) → SameBase a b → CanStandAtStored a.component a.matrix p → CanStandAtStored b.component b.matrix p
base_stand a b p same can =
    subst (λ x. CanStandAtStored x b.matrix p) (sym same.component) (subst (λ x. CanStandAtStored a.component x p) (sym same.matrix_is) can)

pub base_at : (a b : State) (p : StoredPosition) → SameBase a b → at_stored b p ≡ at_stored a p
base_at a b p same =
    ap (λ x. let y : State = record { component = x; matrix = b.matrix; cells = p.cells; locks = p.locks; threads = p.threads } in y) same.component
    ∙ ap (λ x. let y : State = record { component = a.component; matrix = x; cells = p.cells; locks = p.locks; threads = p.threads } in y) same.matrix_is

pub base_back : (a b : State) → SameBase a b → SameBase b a
base_back a b same = record { component = sym same.component; matrix_is = sym same.matrix_is }

pub base_grows : (a b : State) (old new : List StoredNode) → SameBase a b → Grows b old new → Grows a old new
base_grows a b old new same grows = record {
  more = grows.more;
  parts = grows.parts;
  stand = λ can kept is. base_stand b a kept.position (base_back a b same) (grows.stand (λ x at. base_stand a b x.position same (can x at)) kept is);
}

pub home_again : (a b new : State) (home : StoredPosition) → SameBase a b → at_stored a home ≡ a → new ≡ at_stored b home → new ≡ a
home_again a b new home same here is = is ∙ (base_at a b home same ∙ here)

-- the state whose dead registers are cleared after the move
pub cleared_base : (dead : DeadTable) (rounds : Rounds) (a : State) (m : Move) (b : State) (event : Option Event) (cleared : State) → ClientStep (way_of rounds) a m b event → IsCleared dead b cleared → SameBase a cleared
cleared_base dead rounds a m b event cleared step is =
    let moved = moved_base rounds a m b event step in
    let alike = cleared_alike dead b cleared is in
    record { component = alike.component ∙ moved.component; matrix_is = alike.matrix_is ∙ moved.matrix_is }

-- what is stored of it represents the state after the move
pub stored_alike : (dead : DeadTable) (rounds : Rounds) (a : State) (m : Move) (b : State) (event : Option Event) (cleared : State) (p : StoredPosition) → ClientStep (way_of rounds) a m b event → IsCleared dead b cleared → at_stored cleared p ≡ cleared → AreAlike dead b (at_stored a p)
stored_alike dead rounds a m b event cleared p step is here =
    subst (AreAlike dead b) (sym here ∙ base_at a cleared p (cleared_base dead rounds a m b event cleared step is)) (cleared_alike dead b cleared is)

pub next_made : (dead : DeadTable) (rounds : Rounds) (rows : Rows) (a : State) (m : Move) (b : State) (event : Option Event) (cleared : State) (all : List StoredNode) (j : ℕ) (monitor after : List Shown) → ClientStep (way_of rounds) a m b event → IsCleared dead b cleared → IsCoveredAt all j (node_at cleared after) → IsAfterMove (table_of [] rows) b event monitor after → HasNext dead rounds rows all (node_at a monitor) m
next_made dead rounds rows a m b event cleared all j monitor after made clear keeps is other others step =
    let same = in_order_once (limit_of rounds) a m b other event others made step in (
      keeps.0,
      (j, keeps.1),
      subst (λ x. AreAlike dead x (at_stored a keeps.0.position)) same.0 (stored_alike dead rounds a m b event cleared keeps.0.position made clear keeps.2.0),
      (after, subst (λ e. IsAfterMove (table_of [] rows) other e monitor after) same.1 (subst (λ x. IsAfterMove (table_of [] rows) x event monitor after) same.0 is), keeps.2.1),
    )

-- each new node is one to which the move of the arrival leads
pub adds_made : (dead : DeadTable) (rounds : Rounds) (rows : Rows) (a : State) (one : Arrival) (b : State) (event : Option Event) (cleared : State) (old new : List StoredNode) (monitor after : List Shown) → ClientStep (way_of rounds) a one.by b event → IsCleared dead b cleared → IsAfterMove (table_of [] rows) b event monitor after → AddsOnly cleared after (Some one) old new → AddsBy dead rounds rows a monitor one old new
adds_made dead rounds rows a one b event cleared old new monitor after step clear is only kept at =
    elim (only kept at) as (λ _. IsIn old kept ⊎ ((kept.arrival ≡ Some one) × Leads dead rounds rows (node_at a monitor) (one.by ∷ []) (node_of a kept))) [
      | inl before ↦ inl before
      | inr mine ↦
          (let move : IsMove dead (table_of [] rows) (way_of rounds) (node_at a monitor) one.by event (node_of a kept) = (b, step, stored_alike dead rounds a one.by b event cleared kept.position step clear mine.0.0, subst (λ x. IsAfterMove (table_of [] rows) b event monitor x) (sym mine.0.1) is) in
          inr (mine.1, (node_of a kept, event, move, refl)))
    ]

pub only_one : (For : StoredNode → Type 0) (all new : List StoredNode) (one : StoredNode) → new ≡ all ++ one ∷ [] → For one → (kept : StoredNode) → IsIn new kept → IsIn all kept ⊎ For kept
only_one For all new one is for kept at =
    elim (at_push all one kept at.0 (ap (λ (xs : List StoredNode). slice_get xs at.0) (sym is) ∙ at.1)) as (λ _. IsIn all kept ⊎ For kept) [
      | inl before ↦ inl (at.0, before.1)
      | inr last ↦ inr (subst For (sym last.1) for)
    ]

pub stores_only : (s : State) (monitor : List Shown) (arrival : Option Arrival) (old new : List StoredNode) (index : ℕ) → Stores s monitor arrival old new index → AddsOnly s monitor arrival old new
stores_only s monitor arrival old new index stores =
    elim stores.only as (λ _. AddsOnly s monitor arrival old new) [
      | inl same ↦ λ kept at. inl (subst (λ xs. IsIn xs kept) same at)
      | inr more ↦ only_one (λ kept. IsStoredFor (node_at s monitor) kept × (kept.arrival ≡ arrival)) old new (stored_for s monitor arrival) more ((refl, refl), refl)
    ]

-- what is stored after a move
pub stored_after : {E : Type 0} (dead : DeadTable) (rows : Rows) (s : State) (event : Option Event) (monitor : List Shown) (arrival : Arrival) (cleared : State) (old new : List StoredNode) (after : List Shown) → MonitorAfter rows s event monitor after → IsCleared dead s cleared → (result : Result ℕ E) → OnOk result (Grows cleared old new) → IfOk result (λ index. IsCoveredAt new index (node_at cleared after)) → OnOk result (AddsOnly cleared after (Some arrival) old new) → IfOk result (StoresAfter dead rows s event monitor arrival cleared old new)
stored_after dead rows s event monitor arrival cleared old new after follows clear (Ok index) grows there only = record { after = after; follows = follows; clear = clear; grows = grows; there = there; only = only }
stored_after dead rows s event monitor arrival cleared old new after follows clear (Err e) grows there only = tt

-- ---- node after node

pub base_node : (s machine : State) (kept : StoredNode) → SameBase s machine → node_of machine kept ≡ node_of s kept
base_node s machine kept same = ap (λ (x : State). node_at x kept.monitor) (base_at s machine kept.position same)

-- the node that is kept under this number
pub here_node : (machine new : State) (items : List StoredNode) (number : ℕ) (monitor : List Shown) → StandsAt items number machine new → HasMonitorAt items number monitor → (kept : StoredNode) → slice_get items number ≡ Some kept → node_at new monitor ≡ node_of machine kept
here_node machine new items number monitor stands has kept at =
    let position : new ≡ at_stored machine kept.position = stands.2 ∙ ap (λ (x : StoredNode). at_stored machine x.position) (same_Some stands.0 kept (sym stands.1 ∙ at)) in
    let its : monitor ≡ kept.monitor = sym has.2 ∙ ap (λ (x : StoredNode). x.monitor) (same_Some has.0 kept (sym has.1 ∙ at)) in
    ap (λ x. node_at x monitor) position ∙ ap (λ m. node_at (at_stored machine kept.position) m) its

pub copied_monitor : (items : List StoredNode) (number : ℕ) (monitor copy : List Shown) → copy ≡ monitor → HasMonitorAt items number monitor → HasMonitorAt items number copy
copied_monitor items number monitor copy same has = (has.0, has.1, has.2 ∙ sym same)

-- and its component and matrix are those of before
pub stands_base : (machine new : State) (items : List StoredNode) (number : ℕ) → StandsAt items number machine new → SameBase machine new
stands_base machine new items number stands = record { component = ap (λ (x : State). x.component) stands.2; matrix_is = ap (λ (x : State). x.matrix) stands.2 }

pub adds_here : (dead : DeadTable) (rounds : Rounds) (rows : Rows) (machine new : State) (index : ℕ) (node here : Node) (old all : List StoredNode) → SameBase machine new → node ≡ here → AddsFrom dead rounds rows new index node old all → AddsFrom dead rounds rows machine index here old all
adds_here dead rounds rows machine new index node here old all same is adds kept at =
    elim (adds kept at) as (λ _. IsIn old kept ⊎ ComesFrom dead rounds rows machine index here kept) [
      | inl before ↦ inl before
      | inr (a, by, from, leads) ↦
          inr (
            a,
            by,
            from,
            subst (λ (x : Node). Leads dead rounds rows x (moves_of a) (node_of machine kept)) is
                (subst (λ (x : Node). Leads dead rounds rows node (moves_of a) x) (base_node machine new kept same) leads),
          )
    ]

-- what is kept before some more
pub old_at : (all more : List StoredNode) (i : ℕ) (kept : StoredNode) → i < length all → slice_get (all ++ more) i ≡ Some kept → slice_get all i ≡ Some kept
old_at all more i kept lt at =
    let old = within_some all i lt in
    let same : old.0 ≡ kept = same_Some old.0 kept (sym (kept_at all more old.0 i old.1) ∙ at) in
    old.1 ∙ ap Some same

-- ---- arrivals

-- an arrival stays one as the list grows, for any later index too
arrival_more : (dead : DeadTable) (rounds : Rounds) (rows : Rows) (first_monitor : List Shown) (s : State) (all new : List StoredNode) → Grows s all new → (kept : StoredNode) (i j : ℕ) → i ≤ j → (a : Option Arrival) → IsArrival dead rounds rows first_monitor s all i kept a → IsArrival dead rounds rows first_monitor s new j kept a
arrival_more dead rounds rows first_monitor s all new grows kept i j le None is = is
arrival_more dead rounds rows first_monitor s all new grows kept i j le (Some a) (before, parent, at, leads) =
    (omega (arith, before, le), parent, ap (λ (x : List StoredNode). slice_get x a.parent) grows.parts ∙ kept_at all grows.more parent a.parent at, leads)

pub arrivals_more : (dead : DeadTable) (rounds : Rounds) (rows : Rows) (first_monitor : List Shown) (s : State) (n : ℕ) (all new : List StoredNode) → n < length all → AreArrivals dead rounds rows first_monitor s all → Grows s all new → AddsAt dead rounds rows s n all new → AreArrivals dead rounds rows first_monitor s new
arrivals_more dead rounds rows first_monitor s n all new within are grows adds i kept at =
    let here = within_some all n within in
    elim (cases_lt i (length all)) as (λ _. IsArrival dead rounds rows first_monitor s new i kept kept.arrival) [
      | inl less ↦
          (let old = old_at all grows.more i kept less (sym (ap (λ (x : List StoredNode). slice_get x i) grows.parts) ∙ at) in
          arrival_more dead rounds rows first_monitor s all new grows kept i i (omega arith) kept.arrival (are i kept old))
      | inr past ↦ elim (adds here.0 here.1 kept (i, at)) as (λ _. IsArrival dead rounds rows first_monitor s new i kept kept.arrival) [
        | inl before ↦
            (let lt = slice_get_within all before.0 kept before.1 in
            arrival_more dead rounds rows first_monitor s all new grows kept before.0 i (omega (arith, lt, past)) kept.arrival (are before.0 kept before.1))
        | inr (a, by, from, leads) ↦
            (let there : slice_get new n ≡ Some here.0 = ap (λ (x : List StoredNode). slice_get x n) grows.parts ∙ kept_at all grows.more here.0 n here.1 in
            let so : IsArrival dead rounds rows first_monitor s new i kept (Some a) = (omega (arith, within, past, from), here.0, subst (λ x. slice_get new x ≡ Some here.0) (sym from) there, leads) in
            subst (IsArrival dead rounds rows first_monitor s new i kept) (sym by) so)
      ]
    ]

pub arrival_is : (list : List StoredNode) (i : ℕ) (kept : StoredNode) → slice_get list i ≡ Some kept → arrival_at list i ≡ kept.arrival
arrival_is list i kept at = ap (option_and_then (λ (x : StoredNode). x.arrival)) at

-- where there is an arrival, there is a node
arrival_there : (list : List StoredNode) (i : ℕ) (a : Arrival) → arrival_at list i ≡ Some a → (kept : StoredNode) × (slice_get list i ≡ Some kept) × (kept.arrival ≡ Some a)
arrival_there list i a is = by (slice_get list i) refl is
  where
    by : (o : Option StoredNode) → slice_get list i ≡ o → option_and_then (λ (x : StoredNode). x.arrival) o ≡ Some a → (kept : StoredNode) × (slice_get list i ≡ Some kept) × (kept.arrival ≡ Some a)
    by None at h = absurd cc
    by (Some kept) at h = (kept, at, h)

pub parents_before : (dead : DeadTable) (rounds : Rounds) (rows : Rows) (first_monitor : List Shown) (s : State) (all : List StoredNode) → AreArrivals dead rounds rows first_monitor s all → HasParentsBefore all
parents_before dead rounds rows first_monitor s all are i a is =
    let there = arrival_there all i a is in
    (subst (IsArrival dead rounds rows first_monitor s all i there.0) there.2 (are i there.0 there.1)).0

-- moves after moves
leads_on : (dead : DeadTable) (rounds : Rounds) (table : Table) (u v : List Move) (a b c : Node) → MovesLead dead table (way_of rounds) a u b → MovesLead dead table (way_of rounds) b v c → MovesLead dead table (way_of rounds) a (u ++ v) c
leads_on dead rounds table [] v a b c first second = subst (λ (x : Node). MovesLead dead table (way_of rounds) x v c) first second
leads_on dead rounds table (m ∷ u) v a b c (next, event, move, rest) second = (next, event, move, leads_on dead rounds table u v next b c rest second)

-- where moves from the first node lead
pub record WayFrom (dead : DeadTable) (rounds : Rounds) (rows : Rows) (first_monitor : List Shown) (s : State) (u : List Move) (node : Node) : Type 0 where
  pub first : Node
  pub state : Represents dead first s
  pub monitor : first.monitor ≡ first_monitor
  pub lead : Leads dead rounds rows first u node

way_leads : (dead : DeadTable) (rounds : Rounds) (rows : Rows) (first_monitor : List Shown) (s : State) (all : List StoredNode) → AreArrivals dead rounds rows first_monitor s all → (back : List Arrival) (i : ℕ) → AreBack all i back → (kept : StoredNode) → slice_get all i ≡ Some kept → WayFrom dead rounds rows first_monitor s (all_moves back) (node_of s kept)
way_leads dead rounds rows first_monitor s all are [] i way kept at =
    let is : IsStoredFor (node_at s first_monitor) kept = subst (IsArrival dead rounds rows first_monitor s all i kept) (sym (arrival_is all i kept at) ∙ way.1) (are i kept at) in
    record {
      first = node_of s kept;
      state = subst (AreAlike dead s) (sym is.0) (alike_itself dead s);
      monitor = is.1;
      lead = refl;
    }
way_leads dead rounds rows first_monitor s all are (a ∷ back) i (here, way) kept at =
    let is : IsArrival dead rounds rows first_monitor s all i kept (Some a) = subst (IsArrival dead rounds rows first_monitor s all i kept) (sym (arrival_is all i kept at) ∙ here) (are i kept at) in
    let before = way_leads dead rounds rows first_monitor s all are back a.parent way is.1 is.2 in
    record {
      first = before.first;
      state = before.state;
      monitor = before.monitor;
      lead = leads_on dead rounds (table_of [] rows) (all_moves back) (moves_of a) before.first (node_of s is.1) (node_of s kept) before.lead is.3;
    }

pub way_there : (dead : DeadTable) (rounds : Rounds) (rows : Rows) (first_monitor : List Shown) (s : State) (all : List StoredNode) → AreArrivals dead rounds rows first_monitor s all → (i : ℕ) (u : List Move) → IsWayTo all i u → (kept : StoredNode) → slice_get all i ≡ Some kept → WayFrom dead rounds rows first_monitor s u (node_of s kept)
way_there dead rounds rows first_monitor s all are i u (back, way, is) kept at =
    subst (λ v. WayFrom dead rounds rows first_monitor s v (node_of s kept)) (sym is) (way_leads dead rounds rows first_monitor s all are back i way kept at)

-- what holds of the nodes before an index, as the list grows, where it holds of the next one too
pub first_more : (s : State) (n : ℕ) (all new : List StoredNode) (Holds : List StoredNode → Node → Type 0) → n < length all → Grows s all new → ((node : Node) → Holds all node → Holds new node) → ((i : ℕ) → i < n → HoldsOf s all i (Holds all)) → HoldsOf s all n (Holds new) → (i : ℕ) → i < n + 1 → HoldsOf s new i (Holds new)
first_more s n all new Holds within grows stays before here i lt kept at =
    let old = old_at all grows.more i kept (omega (arith, lt, within)) (sym (ap (λ (x : List StoredNode). slice_get x i) grows.parts) ∙ at) in
    elim (cases_lt i n) as (λ _. Holds new (node_of s kept)) [
      | inl less ↦ stays (node_of s kept) (before i less kept old)
      | inr past ↦ (let same : i ≡ n = omega (arith, lt, past) in here kept (ap (slice_get all) (sym same) ∙ old))
    ]

-- the first node alone
pub first_arrivals : (dead : DeadTable) (rounds : Rounds) (rows : Rows) (first_monitor : List Shown) (s : State) (all : List StoredNode) → ((kept : StoredNode) → IsIn all kept → IsStoredFor (node_at s first_monitor) kept × (kept.arrival ≡ None)) → AreArrivals dead rounds rows first_monitor s all
first_arrivals dead rounds rows first_monitor s all only i kept at =
    let mine = only kept (i, at) in
    subst (IsArrival dead rounds rows first_monitor s all i kept) (sym mine.1) mine.0

-- ---- which stages a table has changes nothing

pub after_any : (stages others : List Stage) (rows : Rows) (b : State) (event : Option Event) (old new : List Shown) → IsAfterMove (table_of others rows) b event old new → IsAfterMove (table_of stages rows) b event old new
after_any stages others rows b None old new is = is
after_any stages others rows b (Some (Call t k)) old new is = is
after_any stages others rows b (Some (Return t k outcome)) old new is = is

pub moves_any : (dead : DeadTable) (rounds : Rounds) (stages others : List Stage) (rows : Rows) (u : List Move) (first node : Node) → MovesLead dead (table_of others rows) (way_of rounds) first u node → MovesLead dead (table_of stages rows) (way_of rounds) first u node
moves_any dead rounds stages others rows [] first node path = path
moves_any dead rounds stages others rows (m ∷ u) first node path = (
  path.0,
  path.1,
  (path.2.0, path.2.1, path.2.2, after_any stages others rows path.2.0 path.1 first.monitor path.0.monitor path.2.3),
  moves_any dead rounds stages others rows u path.0 node path.3,
)

pub can_none : (s : State) (all : List StoredNode) → all ≡ [] → AllCanStand s all
can_none s all none kept is = absurd (nothing is.0 (ap (λ (xs : List StoredNode). slice_get xs is.0) (sym none) ∙ is.1))
  where
    nothing : (i : ℕ) → slice_get {X = StoredNode} [] i ≡ Some kept → ⊥
    nothing zero at = cc
    nothing (suc i) at = cc

pub only_first : (For : StoredNode → Type 0) (old new : List StoredNode) → old ≡ [] → ((kept : StoredNode) → IsIn new kept → IsIn old kept ⊎ For kept) → (kept : StoredNode) → IsIn new kept → For kept
only_first For old new none only kept at =
    elim (only kept at) as (λ _. For kept) [
      | inl before ↦ absurd (nothing before.0 (ap (λ (xs : List StoredNode). slice_get xs before.0) (sym none) ∙ before.1))
      | inr mine ↦ mine
    ]
  where
    nothing : (i : ℕ) → slice_get {X = StoredNode} [] i ≡ Some kept → ⊥
    nothing zero at = cc
    nothing (suc i) at = cc

pub base_adds : (dead : DeadTable) (rounds : Rounds) (rows : Rows) (s machine : State) (same : SameBase s machine) (index : ℕ) (kept : StoredNode) (old new : List StoredNode) → AddsFrom dead rounds rows machine index (node_of machine kept) old new → AddsFrom dead rounds rows s index (node_of s kept) old new
base_adds dead rounds rows s machine same index kept old new adds other at =
    elim (adds other at) as (λ _. IsIn old other ⊎ ComesFrom dead rounds rows s index (node_of s kept) other) [
      | inl before ↦ inl before
      | inr (a, by, from, leads) ↦
          inr (
            a,
            by,
            from,
            subst (λ (x : Node). Leads dead rounds rows x (moves_of a) (node_of s other)) (base_node s machine kept same)
                (subst (λ (x : Node). Leads dead rounds rows (node_of machine kept) (moves_of a) x) (base_node s machine other same) leads),
          )
    ]

-- ---- stored nodes, as nodes

pub there : (s : State) (all : List StoredNode) (kept : StoredNode) → IsIn all kept → IsIn (map (node_of s) all) (node_of s kept)
there s all kept at = (at.0, slice_get-map (node_of s) all at.0 ∙ ap (option_map (node_of s)) at.1)

pub record From (s : State) (all : List StoredNode) (node : Node) : Type 0 where
  pub i : ℕ
  pub kept : StoredNode
  pub at : slice_get all i ≡ Some kept
  pub is_node : node_of s kept ≡ node

pub from : (s : State) (all : List StoredNode) (node : Node) → IsIn (map (node_of s) all) node → From s all node
from s all node (i, at) = by (slice_get all i) refl
  where
    by : (o : Option StoredNode) → slice_get all i ≡ o → From s all node
    by None e = absurd (let none : slice_get (map (node_of s) all) i ≡ None = slice_get-map (node_of s) all i ∙ ap (option_map (node_of s)) e in cc)
    by (Some kept) e = record {
      i = i;
      kept = kept;
      at = e;
      is_node = same_Some (node_of s kept) node (sym (slice_get-map (node_of s) all i ∙ ap (option_map (node_of s)) e) ∙ at);
    }
