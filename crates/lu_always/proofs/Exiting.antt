-- Exits of nodes, and where they lead.
use Rattle.std.proofs.Common.{arith, ◌≡◌, ◌⊎◌, ℕ, zero, suc, ◌+◌, ◌<◌, ◌≤◌, Bool, List, [], ◌∷◌, ◌++◌, length, Option, Some, slice_get, refl, sym, ◌∙◌, ap, subst, inl, inr}
use Rattle.std.specs.Global.{Vec}
use Rattle.std.proofs.lemmas.Bool.{cases_lt}
use Rattle.std.proofs.lemmas.Option.{same_Some, slice_get_within}
use Rattle.lu_component.specs.Component.{Component}
use Rattle.lu_test.specs.declared.schedule.Move.{Move}
use Rattle.lu_machine.specs.declared.event.Event.{Event}
use Rattle.lu_machine.specs.declared.thread.Activity.TheVariants.{Idle, Open}
use Rattle.lu_machine.specs.Changes.{at_work}
use Rattle.lu_machine.specs.States.{State}
use Rattle.lu_machine.specs.Steps.{IsFeasible, picks_of}
use Rattle.lu_machine.proofs.StepLaws.{step_feasible}
use Rattle.lu_horizon.specs.Dead.{DeadTable, IsDeadTable}
use Rattle.lu_history.proofs.Events.{at_push, kept_at}
use Rattle.lu_serial.specs.Serial.{HasOpen}
use Rattle.lu_graph.specs.First.{GoesFirst, IsAside}
use Rattle.lu_graph.specs.Growing.{TakeTurns}
use Rattle.lu_graph.specs.Guards.{TellsGuarded}
use Rattle.lu_graph.proofs.Aside.{first_or_none, one_first, one_pick}
use Rattle.lu_client.specs.Clients.{AllBlocked, ClientStep}
use Rattle.lu_client.specs.Stages.{IsIn}
use Rattle.lu_client.proofs.Clients.{moves_in_order}
use Rattle.lu_client.proofs.OneCalls.{within_some}
use Rattle.lu_tree.specs.Alike.{AreAlike}
use Rattle.lu_tree.proofs.Alike.{alike_itself}
use Rattle.lu_tree.proofs.AlikeRuns.{alike_back}
use Rattle.lu_always.specs.Stored.{StoredNode}
use Rattle.lu_always.specs.Clearing.{IsCleared}
use Rattle.lu_always.specs.Exits.{AreExits, AreExitsOf, AreReached, AreReachedBy, MovesTo}
use Rattle.lu_always.specs.Searching.{AreExitsOfFirst, Grows, HoldsOf, IsCoveredAt, node_at, node_of}
use Rattle.lu_always.specs.StepLivelocks.{MayEndBySteps, OpenStepsLead}
use Rattle.lu_always.specs.Sinks.{Graph, IsSink, PathLeads, ReachesSink}
use Rattle.lu_answers.specs.declared.rounds.Rounds.{Rounds}
use Rattle.lu_answers.specs.Ways.{limit_of, way_of}
use Rattle.lu_always.proofs.Endings.{step_component}
use Rattle.lu_always.proofs.Keeping.{old_at, stored_alike}
use Rattle.lu_always.proofs.Likeness.{alike_on, alike_open, blocked_alike, client_alike, in_order_once}
use Rattle.lu_always.proofs.Marked.{nothing_in}
use Rattle.lu_always.proofs.SamePlaces.{alike_places, first_there}
use Rattle.lu_always.proofs.Stood.{open_same}

-- ---- one move

pub client_feasible : (rounds : Rounds) (s : State) (m : Move) (b : State) (event : Option Event) → ClientStep (way_of rounds) s m b event → IsFeasible s m
client_feasible rounds s m b event step = let it = (moves_in_order (limit_of rounds) s m b event).0 step in step_feasible s m it.0 event it.1

-- the node that is stored for the state to which the move leads
pub moves_made : (dead : DeadTable) (rounds : Rounds) (s : State) (m : Move) (b : State) (event : Option Event) (cleared : State) (all : List StoredNode) (index : ℕ) (monitor : _) → ClientStep (way_of rounds) s m b event → IsCleared dead b cleared → IsCoveredAt all index (node_at cleared monitor) → MovesTo dead rounds all s m index
moves_made dead rounds s m b event cleared all index monitor step clear is =
    (is.0, b, event, is.1, step, stored_alike dead rounds s m b event cleared is.0.position step clear is.2.0)

pub moves_more : (dead : DeadTable) (rounds : Rounds) (base : State) (old new : List StoredNode) → Grows base old new → (s : State) (m : Move) (index : ℕ) → MovesTo dead rounds old s m index → MovesTo dead rounds new s m index
moves_more dead rounds base old new grows s m index (to, b, event, at, step, alike) =
    (to, b, event, ap (λ (x : List StoredNode). slice_get x index) grows.parts ∙ kept_at old grows.more to index at, step, alike)

pub reached_more : (Among : Move → Type 0) (dead : DeadTable) (rounds : Rounds) (base : State) (old new : List StoredNode) → Grows base old new → (indexes : List ℕ) (s : State) → AreReached Among dead rounds old indexes s → AreReached Among dead rounds new indexes s
reached_more Among dead rounds base old new grows indexes s are = record {
  moves = λ index is. (let it = are.moves index is in (it.0, it.1, moves_more dead rounds base old new grows s it.0 index it.2));
  each = λ m among can. (let it = are.each m among can in (it.0, it.1, moves_more dead rounds base old new grows s m it.0 it.2));
}

-- ---- by moves among these

in_either : (xs ys : List ℕ) (i : ℕ) → IsIn (xs ++ ys) i → IsIn xs i ⊎ IsIn ys i
in_either [] ys i is = inr is
in_either (x ∷ xs) ys i (zero, at) = inl (zero, at)
in_either (x ∷ xs) ys i (suc j, at) = elim (in_either xs ys i (j, at)) as (λ _. IsIn (x ∷ xs) i ⊎ IsIn ys i) [
  | inl front ↦ inl (suc front.0, front.1)
  | inr behind ↦ inr behind
]

in_behind : (xs ys : List ℕ) (i : ℕ) → IsIn ys i → IsIn (xs ++ ys) i
in_behind [] ys i is = is
in_behind (x ∷ xs) ys i is = (let on = in_behind xs ys i is in (suc on.0, on.1))

in_one : (index i : ℕ) → IsIn (index ∷ []) i → i ≡ index
in_one index i (zero, at) = sym (same_Some index i at)
in_one index i (suc j, at) = absurd (nothing_in j i at)

module _ (dead : DeadTable) (rounds : Rounds) (all : List StoredNode) (s : State) where
  pub reached_none : (Among : Move → Type 0) → ((m : Move) → Among m → IsFeasible s m → ⊥) → AreReached Among dead rounds all [] s
  reached_none Among never = record {
    moves = λ index is. absurd (nothing_in is.0 index is.1);
    each = λ m among can. absurd (never m among can);
  }

  pub reached_same : (A B : Move → Type 0) → ((m : Move) → A m → IsFeasible s m → B m) → ((m : Move) → B m → IsFeasible s m → A m) → (indexes : List ℕ) → AreReached A dead rounds all indexes s → AreReached B dead rounds all indexes s
  reached_same A B to back indexes are = record {
    moves = λ index is. (let it = are.moves index is in (it.0, to it.0 it.1 (client_feasible rounds s it.0 it.2.1 it.2.2 it.2.4), it.2));
    each = λ m among can. are.each m (back m among can) can;
  }

  pub reached_one : (Among : Move → Type 0) (m : Move) (index : ℕ) → Among m → ((k : Move) → Among k → k ≡ m) → MovesTo dead rounds all s m index → AreReached Among dead rounds all (index ∷ []) s
  reached_one Among m index among only leads = record {
    moves = λ i is. (m, among, subst (MovesTo dead rounds all s m) (sym (in_one index i is)) leads);
    each = λ k also can. (index, (0, refl), subst (λ x. MovesTo dead rounds all s x index) (sym (only k also)) leads);
  }

  -- those among A and those among B are those among C
  pub reached_both : (A B C : Move → Type 0) → ((m : Move) → A m → C m) → ((m : Move) → B m → C m) → ((m : Move) → C m → A m ⊎ B m) → (xs ys : List ℕ) → AreReached A dead rounds all xs s → AreReached B dead rounds all ys s → AreReached C dead rounds all (xs ++ ys) s
  reached_both A B C first second either xs ys one two = record {
    moves = λ index is. elim (in_either xs ys index is) as (λ _. (m : Move) × C m × MovesTo dead rounds all s m index) [
      | inl front ↦ (let it = one.moves index front in (it.0, first it.0 it.1, it.2))
      | inr behind ↦ (let it = two.moves index behind in (it.0, second it.0 it.1, it.2))
    ];
    each = λ m among can. elim (either m among) as (λ _. (index : ℕ) × IsIn (xs ++ ys) index × MovesTo dead rounds all s m index) [
      | inl front ↦ (let it = one.each m front can in (it.0, (it.1.0, kept_at xs ys it.0 it.1.0 it.1.1), it.2))
      | inr behind ↦ (let it = two.each m behind can in (it.0, in_behind xs ys it.0 it.1, it.2))
    ];
  }

-- ---- of one thread

-- by its picks before this one
abbrev pub Below : ℕ → ℕ → Move → Type 0
Below t p m = (m.thread ≡ t) × (m.pick < p)

module _ (dead : DeadTable) (rounds : Rounds) (s : State) (t : ℕ) where
  pub picks_none : (all : List StoredNode) → AreReached (Below t 0) dead rounds all [] s
  picks_none all = reached_none dead rounds all s (Below t 0) (λ m below can. (let lt = below.1 in absurd (omega (arith, lt))))

  pub picks_next : (old new : List StoredNode) (indexes more : List ℕ) (p index : ℕ) → Grows s old new → more ≡ indexes ++ index ∷ [] → (let m : Move = record { thread = t; pick = p } in MovesTo dead rounds new s m index) → AreReached (Below t p) dead rounds old indexes s → AreReached (Below t (p + 1)) dead rounds new more s
  picks_next old new indexes more p index grows is leads are =
      let m : Move = record { thread = t; pick = p } in
      subst (λ x. AreReached (Below t (p + 1)) dead rounds new x s) (sym is)
      (reached_both dead rounds new s (Below t p) (λ k. k ≡ m) (Below t (p + 1))
      (λ k below. (let lt = below.1 in (below.0, omega (arith, lt))))
      (λ k same. (ap (λ (x : Move). x.thread) same, (let pick : k.pick ≡ p = ap (λ (x : Move). x.pick) same in omega (arith, pick))))
      (λ k below. (let lt = below.1 in
      elim (cases_lt k.pick p) as (λ _. Below t p k ⊎ (k ≡ m)) [
        | inl less ↦ inl (below.0, less)
        | inr past ↦
            (let pick : k.pick ≡ p = omega (arith, lt, past) in
            inr (ap (λ (x : ℕ). let y : Move = record { thread = x; pick = k.pick } in y) below.0 ∙ ap (λ (x : ℕ). let y : Move = record { thread = t; pick = x } in y) pick))
      ]))
      indexes (index ∷ [])
      (reached_more (Below t p) dead rounds s old new grows indexes s are)
      (reached_one dead rounds new s (λ k. k ≡ m) m index refl (λ k same. same) leads))

  pub picks_all : (all : List StoredNode) (indexes : List ℕ) (p : ℕ) → picks_of s t ≤ p → AreReached (Below t p) dead rounds all indexes s → AreReachedBy t dead rounds all indexes s
  picks_all all indexes p past are =
      reached_same dead rounds all s (Below t p) (λ m. m.thread ≡ t) (λ m below can. below.0)
      (λ m is can. (is, (let few : picks_of s m.thread ≤ p = subst (λ x. picks_of s x ≤ p) (sym is) past in omega (arith, can, few))))
      indexes are

  -- where it has an open operation, these are its exits
  pub exits_open : (all : List StoredNode) (exits : List ℕ) → HasOpen s t → AreReachedBy t dead rounds all exits s → AreExitsOf t dead rounds all exits s
  exits_open all exits busy are =
      reached_same dead rounds all s (λ m. m.thread ≡ t) (λ m. (m.thread ≡ t) × HasOpen s m.thread)
      (λ m is can. (is, subst (HasOpen s) (sym is) busy)) (λ m both can. both.0) exits are

  -- where it has none, there are no exits
  pub exits_shut : (all : List StoredNode) (exits : List ℕ) → exits ≡ [] → (HasOpen s t → ⊥) → AreExitsOf t dead rounds all exits s
  exits_shut all exits none shut =
      subst (λ x. AreExitsOf t dead rounds all x s) (sym none)
      (reached_none dead rounds all s (λ m. (m.thread ≡ t) × HasOpen s m.thread) (λ m both can. shut (subst (HasOpen s) both.0 both.1)))

  -- nor are there where it cannot move
  pub exits_stopped : (all : List StoredNode) (exits : List ℕ) → exits ≡ [] → picks_of s t ≡ 0 → AreExitsOf t dead rounds all exits s
  exits_stopped all exits none still =
      subst (λ x. AreExitsOf t dead rounds all x s) (sym none)
      (reached_none dead rounds all s (λ m. (m.thread ≡ t) × HasOpen s m.thread)
      (λ m both can. (let zero_picks : picks_of s m.thread ≡ 0 = ap (picks_of s) both.0 ∙ still in absurd (omega (arith, can, zero_picks)))))

-- ---- of all threads

-- of the threads from `first` to before t
abbrev pub Between : State → ℕ → ℕ → Move → Type 0
Between s first t m = HasOpen s m.thread × (first ≤ m.thread) × (m.thread < t)

module _ (dead : DeadTable) (rounds : Rounds) (s : State) (first : ℕ) where
  pub between_none : (all : List StoredNode) (exits : List ℕ) → exits ≡ [] → AreReached (Between s first first) dead rounds all exits s
  between_none all exits none =
      subst (λ x. AreReached (Between s first first) dead rounds all x s) (sym none)
      (reached_none dead rounds all s (Between s first first) (λ m between can. (let le = between.1 in let lt = between.2 in absurd (omega (arith, le, lt)))))

  pub between_next : (old new : List StoredNode) (exits more now : List ℕ) (t : ℕ) → Grows s old new → first ≤ t → now ≡ exits ++ more → AreReached (Between s first t) dead rounds old exits s → AreExitsOf t dead rounds new more s → AreReached (Between s first (t + 1)) dead rounds new now s
  between_next old new exits more now t grows from is are its =
      subst (λ x. AreReached (Between s first (t + 1)) dead rounds new x s) (sym is)
      (reached_both dead rounds new s (Between s first t) (λ m. (m.thread ≡ t) × HasOpen s m.thread) (Between s first (t + 1))
      (λ m between. (let lt = between.2 in (between.0, between.1, omega (arith, lt))))
      (λ m both. (let same = both.0 in (both.1, omega (arith, same, from), omega (arith, same))))
      (λ m between. (let lt = between.2 in
      elim (cases_lt m.thread t) as (λ _. Between s first t m ⊎ ((m.thread ≡ t) × HasOpen s m.thread)) [
        | inl less ↦ inl (between.0, between.1, less)
        | inr past ↦ inr (omega (arith, lt, past), between.0)
      ]))
      exits more (reached_more (Between s first t) dead rounds s old new grows exits s are) its)

  pub between_all : (all : List StoredNode) (exits : List ℕ) (end t : ℕ) → TakeTurns s first end → end ≤ t → (t ≤ end) ⊎ (t ≡ first) → AreReached (Between s first t) dead rounds all exits s → AreExits dead rounds all exits s
  between_all all exits end t turns past within are =
      reached_same dead rounds all s (Between s first t) (λ m. HasOpen s m.thread × GoesFirst s m)
      (λ m between can.
      (let from = between.1 in
      let lt = between.2 in
      (between.0, (turns m can).1 (from, elim within as (λ _. m.thread < end) [ inl le ↦ omega (arith, lt, le) | inr same ↦ absurd (omega (arith, from, lt, same)) ]))))
      (λ m both can. (let goes = (turns m can).0 both.1 in let lt = goes.1 in (both.0, goes.0, omega (arith, lt, past))))
      exits are

-- ---- node after node

pub exits_none : (dead : DeadTable) (rounds : Rounds) (s : State) (all : List StoredNode) (exits : Graph) → exits ≡ [] → AreExitsOfFirst dead rounds s all exits
exits_none dead rounds s all exits none i its at = absurd (nothing_in i its (ap (λ (x : Graph). slice_get x i) (sym none) ∙ at))

pub exits_next : (dead : DeadTable) (rounds : Rounds) (s : State) (old new : List StoredNode) (exits more : Graph) (its : Vec ℕ) → more ≡ exits ++ its ∷ [] → length exits < length old → Grows s old new → AreExitsOfFirst dead rounds s old exits → HoldsOf s old (length exits) (λ node. AreExits dead rounds new its.items node.state) → AreExitsOfFirst dead rounds s new more
exits_next dead rounds s old new exits more its is within grows are here i some at kept stored =
    elim (at_push exits its some i (ap (λ (x : Graph). slice_get x i) (sym is) ∙ at)) as (λ _. AreExits dead rounds new some.items (node_of s kept).state) [
      | inl before ↦
          (let lt = before.0 in
          let old_kept = old_at old grows.more i kept (omega (arith, lt, within)) (sym (ap (λ (x : List StoredNode). slice_get x i) grows.parts) ∙ stored) in
          let node : State = (node_of s kept).state in
          reached_more (λ m. HasOpen node m.thread × GoesFirst node m) dead rounds s old new grows some.items node (are i some before.1 kept old_kept))
      | inr last ↦
          (let same = last.0 in
          let old_kept = old_at old grows.more i kept (omega (arith, same, within)) (sym (ap (λ (x : List StoredNode). slice_get x i) grows.parts) ∙ stored) in
          subst (λ (x : Vec ℕ). AreExits dead rounds new x.items (node_of s kept).state) (sym last.1) (here kept (ap (slice_get old) (sym same) ∙ old_kept)))
    ]

-- ---- where exits lead

-- a thread that is at a left mover has an open operation
aside_opens : (s : State) (t : ℕ) → IsAside s t → HasOpen s t
aside_opens s t is = (at_work is.done is.frame, is.stands, (λ e. let clash : Open is.frame ≡ Idle = e in cc))

-- where an open operation can move, the step of one goes first
record OpenFirst (s : State) : Type 0 where
  m : Move
  busy : HasOpen s m.thread
  first : GoesFirst s m
  can : IsFeasible s m

open_first : (s : State) (guarded : List Bool) → TellsGuarded s.component guarded → (t : ℕ) → HasOpen s t → 0 < picks_of s t → OpenFirst s
open_first s guarded told t busy can = elim (first_or_none s guarded told) as (λ _. OpenFirst s) [
  | inl found ↦
      (let one = one_pick s found.0 found.1.aside in
      record {
        m = record { thread = found.0; pick = 0 };
        busy = aside_opens s found.0 found.1.aside;
        first = λ x first. one_first s found.0 x found.1 first;
        can = omega (arith, one);
      })
  | inr none ↦ record {
    m = record { thread = t; pick = 0 };
    busy = busy;
    first = λ x first. absurd (none x first.aside);
    can = can;
  }
]

module _ (c : Component) (dead : DeadTable) (sound : IsDeadTable c dead) (rounds : Rounds) where
  -- states that differ in dead registers only come to an end by the same steps
  steps_alike : (u : List Move) (s r end : State) → s.component ≡ c → AreAlike dead s r → OpenStepsLead (way_of rounds) s u end → AllBlocked end → MayEndBySteps (way_of rounds) r
  steps_alike [] s r end is alike path blocked =
      let known : IsDeadTable s.component dead = subst (λ x. IsDeadTable x dead) (sym is) sound in
      ([], r, refl, blocked_alike dead (way_of rounds) s r known alike (subst AllBlocked path blocked))
  steps_alike (m ∷ u) s r end is alike (next, event, busy, first, step, rest) blocked =
      let known : IsDeadTable s.component dead = subst (λ x. IsDeadTable x dead) (sym is) sound in
      let here = open_same s r (λ t. sym (alike_open dead s r alike t)) m.thread busy in
      let there = client_alike dead (way_of rounds) s r known alike m next event step in
      let on = steps_alike u next there.0 end (step_component c (way_of rounds) s m next event is step) there.2 rest blocked in
      (m ∷ on.0, on.1, (there.0, event, here, first_there s r (alike_places dead s r alike) m first, there.1, on.2), on.3)

module _ (c : Component) (dead : DeadTable) (sound : IsDeadTable c dead) (rounds : Rounds) (guarded : List Bool) (told : TellsGuarded c guarded) (s : State) (is_of : s.component ≡ c) (all : List StoredNode) (exits : Graph) (are : AreExitsOfFirst dead rounds s all exits) where
  -- where there is no exit, all open operations are blocked
  none_blocked : (i : ℕ) (kept : StoredNode) → slice_get all i ≡ Some kept → IsSink exits i → AllBlocked (node_of s kept).state
  none_blocked i kept at (its, here, none) t busy = by (picks_of (node_of s kept).state t) refl
    where
      by : (n : ℕ) → picks_of (node_of s kept).state t ≡ n → picks_of (node_of s kept).state t ≡ 0
      by zero is = is
      by (suc n) is =
          let can : 0 < picks_of (node_of s kept).state t = omega (arith, is) in
          let one = open_first (node_of s kept).state guarded (subst (λ (d : Component). TellsGuarded d guarded) (sym is_of) told) t busy can in
          let to = (are i its here kept at).each one.m (one.busy, one.first) one.can in
          absurd (nothing_in to.1.0 to.0 (ap (λ (x : List ℕ). slice_get x to.1.0) (sym none) ∙ to.1.1))

  -- where all open operations are blocked, there is none
  blocked_none : (i : ℕ) (kept : StoredNode) → slice_get all i ≡ Some kept → (its : Vec ℕ) → slice_get exits i ≡ Some its → AllBlocked (node_of s kept).state → its.items ≡ []
  blocked_none i kept at its here blocked = by its.items refl
    where
      by : (xs : List ℕ) → its.items ≡ xs → its.items ≡ []
      by [] is = is
      by (x ∷ xs) is =
          let it = (are i its here kept at).moves x (0, ap (λ (ys : List ℕ). slice_get ys 0) is) in
          let can = client_feasible rounds (node_of s kept).state it.0 it.2.1 it.2.2 it.2.4 in
          let none = blocked it.0.thread it.1.0 in
          absurd (omega (arith, can, none))

  -- a path along exits to a node without one is the end of open operations
  path_ends : (path : List ℕ) (i k : ℕ) (kept : StoredNode) → slice_get all i ≡ Some kept → PathLeads exits i path k → IsSink exits k → MayEndBySteps (way_of rounds) (node_of s kept).state
  path_ends [] i k kept at leads sink = ([], (node_of s kept).state, refl, none_blocked i kept at (subst (IsSink exits) leads sink))
  path_ends (j ∷ path) i k kept at ((its, here, is), leads) sink =
      let (m, (busy, first), (to, b, event, there, step, alike)) = (are i its here kept at).moves j is in
      let may = path_ends path j k to there leads sink in
      let rest = steps_alike c dead sound rounds may.0 (node_of s to).state b may.1 is_of (alike_back dead b (node_of s to).state alike) may.2 may.3 in
      (m ∷ rest.0, rest.1, (b, event, busy, first, step, rest.2), rest.3)

  module _ (many : length exits ≡ length all) where
    row : (i : ℕ) (kept : StoredNode) → slice_get all i ≡ Some kept → (its : Vec ℕ) × (slice_get exits i ≡ Some its)
    row i kept at = let lt = slice_get_within all i kept at in within_some exits i (omega (arith, lt, many))

    -- and the end of open operations, from a state that the node represents, is such a path
    ends_path : (u : List Move) (i : ℕ) (kept : StoredNode) (r end : State) → slice_get all i ≡ Some kept → r.component ≡ c → AreAlike dead r (node_of s kept).state → OpenStepsLead (way_of rounds) r u end → AllBlocked end → ReachesSink exits i
    ends_path [] i kept r end at of alike is blocked =
        let here = row i kept at in
        let known : IsDeadTable r.component dead = subst (λ x. IsDeadTable x dead) (sym of) sound in
        ([], i, refl, (here.0, here.1, blocked_none i kept at here.0 here.1 (blocked_alike dead (way_of rounds) r (node_of s kept).state known alike (subst AllBlocked is blocked))))
    ends_path (m ∷ u) i kept r end at of alike (next, event, busy, first, step, rest) blocked =
        let node : State = (node_of s kept).state in
        let here = row i kept at in
        let known : IsDeadTable r.component dead = subst (λ x. IsDeadTable x dead) (sym of) sound in
        let also = client_alike dead (way_of rounds) r node known alike m next event step in
        let busy_there = open_same r node (λ t. sym (alike_open dead r node alike t)) m.thread busy in
        let goes = first_there r node (alike_places dead r node alike) m first in
        let it = (are i here.0 here.1 kept at).each m (busy_there, goes) (client_feasible rounds node m also.0 event also.1) in
        let to = it.2.0 in
        let same = (in_order_once (limit_of rounds) node m also.0 it.2.1 event it.2.2 also.1 it.2.4).0 in
        let there = alike_on dead next it.2.1 (node_of s to).state (subst (AreAlike dead next) same also.2) it.2.5 in
        let on = ends_path u it.0 to next end it.2.3 (step_component c (way_of rounds) r m next event of step) there rest blocked in
        (it.0 ∷ on.0, on.1, ((here.0, here.1, it.1), on.2), on.3)

    pub sink_may_end : (i : ℕ) (kept : StoredNode) → slice_get all i ≡ Some kept → ReachesSink exits i → MayEndBySteps (way_of rounds) (node_of s kept).state
    sink_may_end i kept at (path, k, leads, sink) = path_ends path i k kept at leads sink

    pub may_end_sink : (i : ℕ) (kept : StoredNode) → slice_get all i ≡ Some kept → MayEndBySteps (way_of rounds) (node_of s kept).state → ReachesSink exits i
    may_end_sink i kept at (u, end, path, blocked) =
        ends_path u i kept (node_of s kept).state end at is_of (alike_itself dead (node_of s kept).state) path blocked
