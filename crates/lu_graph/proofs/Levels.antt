-- Levels of a breadth-first search: the first bad node has the fewest moves.
use Rattle.std.proofs.Common.{arith, ◌≡◌, ℕ, ◌+◌, ◌<◌, ◌≤◌, List, [], ◌∷◌, ◌++◌, length, length-append, Option, Some, None, slice_get, refl, sym, ◌∙◌, ap, subst, inl, inr}
use Rattle.std.specs.Global.{Vec}
use Rattle.std.proofs.lemmas.Bool.{cases_lt}
use Rattle.std.proofs.lemmas.List.{length_push}
use Rattle.std.proofs.lemmas.Option.{same_Some, slice_get_within}
use Rattle.lu_test.specs.declared.schedule.Move.{Move}
use Rattle.lu_machine.specs.declared.event.Event.{Event}
use Rattle.lu_machine.specs.Runs.{Leads, with_event}
use Rattle.lu_machine.specs.States.{State, progress}
use Rattle.lu_machine.specs.Steps.{Step}
use Rattle.lu_machine.proofs.Paths.{child_leads, leads_split}
use Rattle.lu_history.specs.declared.serial.SerialOp.{SerialOp}
use Rattle.lu_history.specs.Standing.{Agree}
use Rattle.lu_horizon.specs.Dead.{DeadTable}
use Rattle.lu_tree.proofs.Reordering.{good_reordered}
use Rattle.lu_graph.specs.Expanding.{IsNextBetween}
use Rattle.lu_graph.specs.First.{AllGoFirst, GoesFirst}
use Rattle.lu_graph.specs.Kept.{Kept}
use Rattle.lu_graph.specs.Rows.{KnowsDead}
use Rattle.lu_graph.specs.Growing.{AddsNext, CanStandThere, ComesBy, GrowsBy, HasStart, IsNext}
use Rattle.lu_graph.specs.Judging.{IsOneOf}
use Rattle.lu_graph.specs.Nodes.{IsBadAt, IsGoodIfEnded, IsShortestBad, longer}
use Rattle.lu_graph.specs.Visiting.{AreVisited, IsFor, IsReached, its}
use Rattle.lu_graph.proofs.Among.{all_at, at_either, at_first, at_left}
use Rattle.lu_graph.proofs.Closing.{for_next, step_for, step_of}
use Rattle.lu_graph.proofs.Explored.{AreGoodBefore, start_is}
use Rattle.lu_graph.proofs.First.{first_alike, first_back, first_before, first_last, first_more}
use Rattle.lu_graph.proofs.Aside.{FirstTells}

-- the last move of a schedule
last_move : (u : List Move) (n : ℕ) → length u ≡ n + 1 → (v : List Move) × (m : Move) × (length v ≡ n) × (u ≡ v ++ m ∷ [])
last_move [] n h = absurd (omega (arith, h))
last_move (m ∷ []) n h = ([], m, omega (arith, h), refl)
last_move (m ∷ k ∷ u) n h =
    let r = last_move (k ∷ u) (length u) (omega arith) in
    let long = r.2 in
    (m ∷ r.0, r.1, omega (arith, h, long), ap (λ x. m ∷ x) r.3)

-- where the last move is made, and what it does
without_last : (s : State) (v : List Move) (m : Move) (last : State) (h : List Event) → Leads s (v ++ m ∷ []) last h → (mid : State) × (first : List Event) × (event : Option Event) × Leads s v mid first × Step mid m last event × (h ≡ longer first event)
without_last s v m last h leads =
    let parts = leads_split s v (m ∷ []) last h leads in
    let made = parts.goes_on in
    let event = made.1 in
    let front = parts.first in
    let step : Step parts.mid m last event = subst (λ x. Step parts.mid m x event) (sym made.4.0) made.3 in
    let second : parts.second ≡ with_event event [] = made.5 ∙ ap (with_event event) made.4.1 in
    (parts.mid, front, event, parts.begins, step, parts.whole ∙ ap (λ x. front ++ x) second)

-- it is kept for this state and this history, before the place
abbrev IsKeptBefore : State → List (Vec SerialOp) → List Kept → ℕ → State → List Event → Type 0
IsKeptBefore s members list place end h = (i : ℕ) × (kept : Kept) × (i < place) × (slice_get list i ≡ Some kept) × IsFor s members end h kept

-- each schedule of fewer moves that all go first leads to what is kept before this place
abbrev pub LeadBefore : State → List (Vec SerialOp) → List Kept → ℕ → ℕ → Type 0
LeadBefore s members list moves place =
    (u : List Move) (end : State) (h : List Event) → length u < moves → AllGoFirst s u → Leads s u end h → IsKeptBefore s members list place end h

-- a schedule of so many moves leads to it
pub record IsReachedIn (s : State) (members : List (Vec SerialOp)) (moves : ℕ) (kept : Kept) : Type 0 where
  pub way : IsReached s members kept
  pub long : length way.schedule ≡ moves

-- The search has come to this place: those before it are good where they have ended, and are all to
-- which schedules of fewer moves lead. From there to the end of the level schedules of so many
-- moves lead, and after it schedules of one more.
pub record AreSearched (members : List (Vec SerialOp)) (s : State) (list : List Kept) (place moves end : ℕ) : Type 0 where
  pub good : AreGoodBefore s members list place
  pub past : LeadBefore s members list moves place
  pub level : LeadBefore s members list (moves + 1) end
  pub within : end ≤ length list
  pub now : (i : ℕ) (kept : Kept) → place ≤ i → i < end → slice_get list i ≡ Some kept → IsReachedIn s members moves kept
  pub next : (i : ℕ) (kept : Kept) → end ≤ i → slice_get list i ≡ Some kept → IsReachedIn s members (moves + 1) kept

module _ (s : State) (members : List (Vec SerialOp)) (dead : DeadTable) (dead_known : KnowsDead s.component dead) where
  pub searched_none : (list : List Kept) → Agree (progress s) [] → HasStart members s list → AreSearched members s list 0 0 (length list)
  searched_none list agree start = record {
    good = λ i kept lt. absurd (omega arith);
    past = λ u end h lt. absurd (omega arith);
    level = first;
    within = omega arith;
    now = λ i kept le lt is.
        (let adds = start.2 in
        let one = all_at (λ (k : Kept). CanStandThere s.component s.matrix k × ComesBy s.component s.matrix members s start.0 None k) adds.grows.0 adds.grows.2 i kept (subst (λ (x : List Kept). slice_get x i ≡ Some kept) adds.grows.1 is) in
        record {
          way = record { schedule = []; first = tt; end = s; history = []; leads = (refl, refl); is = start_is s members dead dead_known agree list start kept one.1 };
          long = refl;
        });
    next = λ i kept le is. (let lt = slice_get_within list i kept is in absurd (omega (arith, lt, le)));
  }
    where
      first : LeadBefore s members list (0 + 1) (length list)
      first [] end h lt all leads =
          let there = start.2.there in
          let here = start_is s members dead dead_known agree list start there.1 there.3 in (
            there.0,
            there.1,
            slice_get_within list there.0 there.1 there.2,
            there.2,
            subst (λ x. IsFor s members end x there.1) (sym leads.1) (subst (λ x. IsFor s members x [] there.1) (sym leads.0) here),
          )
      first (m ∷ u) end h lt all leads = absurd (omega (arith, lt))

  -- a node to which a move leads from one that is reached by so many
  reached_next : (moves : ℕ) (kept : Kept) → IsReachedIn s members moves kept → (one : Kept) → CanStandThere s.component s.matrix one × IsNext members (its s kept) kept.alive one → IsReachedIn s members (moves + 1) one
  reached_next moves kept reached one (stands, (m, next, event, first, step, by)) =
      let u = reached.way.schedule in
      let h = reached.way.history in
      let end = reached.way.end in
      let other = step_for s members dead dead_known kept end h reached.way.is m next event step in
      let long = length_push u m in
      let before = reached.long in
      record {
        way = record {
          schedule = u ++ m ∷ [];
          first = first_more s u end h m reached.way.first reached.way.leads (first_back end (its s kept) reached.way.is.state m first);
          end = other.0;
          history = longer h event;
          leads = child_leads s u end h reached.way.leads m other.0 event other.1;
          is = for_next s members dead dead_known kept one end h reached.way.is m other.0 next event other.1 other.2 by;
        };
        long = omega (arith, long, before);
      }

  module _ (list : List Kept) (place moves end : ℕ) (known : AreSearched members s list place moves end) where
    -- nodes are added to which moves lead from nodes of the level
    module _ (new : List Kept) (grows : GrowsBy s.component s.matrix (IsNextBetween members s.component s.matrix list place end) list new) (less : place < end) where
      stood_ahead : (i : ℕ) (one : Kept) → i < length list → slice_get new i ≡ Some one → slice_get list i ≡ Some one
      stood_ahead i one lt is = at_first list grows.0 i one lt (subst (λ (x : List Kept). slice_get x i ≡ Some one) grows.1 is)

      still_ahead : (i : ℕ) (one : Kept) → slice_get list i ≡ Some one → slice_get new i ≡ Some one
      still_ahead i one is = subst (λ (x : List Kept). slice_get x i ≡ Some one) (sym grows.1) (at_left list grows.0 i one is)

      ahead_reached : (one : Kept) → CanStandThere s.component s.matrix one × IsNextBetween members s.component s.matrix list place end one → IsReachedIn s members (moves + 1) one
      ahead_reached one (stands, (i, kept, after, before, at, next)) = reached_next moves kept (known.now i kept after before at) one (stands, next)

      pub searched_ahead : AreSearched members s new place moves end
      searched_ahead = record {
        good = λ i one lt is x h for. (let within = known.within in known.good i one lt (stood_ahead i one (omega (arith, lt, less, within)) is) x h for);
        past = λ u last h lt all leads. (let x = known.past u last h lt all leads in (x.0, x.1, x.2, still_ahead x.0 x.1 x.3, x.4));
        level = λ u last h lt all leads. (let x = known.level u last h lt all leads in (x.0, x.1, x.2, still_ahead x.0 x.1 x.3, x.4));
        within = (let within = known.within in let long = ap length grows.1 in let sum = length-append list grows.0 in omega (arith, within, long, sum));
        now = λ i one le lt is. (let within = known.within in known.now i one le lt (stood_ahead i one (omega (arith, lt, within)) is));
        next = λ i one le is. elim (at_either list grows.0 i one (subst (λ (x : List Kept). slice_get x i ≡ Some one) grows.1 is)) as (λ _. IsReachedIn s members (moves + 1) one) [
          | inl old ↦ known.next i one le old.1
          | inr more ↦ ahead_reached one (all_at (λ (k : Kept). CanStandThere s.component s.matrix k × IsNextBetween members s.component s.matrix list place end k) grows.0 grows.2 more.0 one more.2)
        ];
      }

    -- the level has ended at this place
    module _ (visited : AreVisited members s list place) (ended : end ≤ place) where
      -- one move after a node of the level
      move_on : (i : ℕ) (one : Kept) → i < end → slice_get list i ≡ Some one → (mid last : State) (first : List Event) → IsFor s members mid first one → (m : Move) (event : Option Event) → GoesFirst mid m → Step mid m last event → IsKeptBefore s members list (length list) last (longer first event)
      move_on i one lt at mid last first is m event goes step =
          let other = step_of s members dead dead_known one mid first is m last event step in
          let there = visited.closed i one (omega (arith, lt, ended)) at m other.0 event (first_alike mid (its s one) is.state m goes) other.1 in
          (there.0, there.1, slice_get_within list there.0 there.1 there.2, there.2, for_next s members dead dead_known one there.1 mid first is m last other.0 event step other.2 there.3)

      behind : (u : List Move) (last : State) (h : List Event) → length u ≡ moves + 1 → AllGoFirst s u → Leads s u last h → IsKeptBefore s members list (length list) last h
      behind u last h long all leads =
          let cut = last_move u moves long in
          let shorter = cut.2 in
          let way = without_last s cut.0 cut.1 last h (subst (λ (x : List Move). Leads s x last h) cut.3 leads) in
          let first : AllGoFirst s (cut.0 ++ cut.1 ∷ []) = subst (λ (x : List Move). AllGoFirst s x) cut.3 all in
          let before = known.level cut.0 way.0 way.1 (omega (arith, shorter)) (first_before s cut.0 cut.1 first) way.3 in
          subst (λ x. IsKeptBefore s members list (length list) last x) (sym way.5) (move_on before.0 before.1 before.2 before.3 way.0 last way.1 before.4 cut.1 way.2 (first_last s cut.0 cut.1 way.0 way.1 first way.3) way.4)

      pub searched_level : AreSearched members s list place (moves + 1) (length list)
      searched_level = record {
        good = known.good;
        past = λ u last h lt all leads. (let x = known.level u last h lt all leads in let less = x.2 in (x.0, x.1, omega (arith, less, ended), x.3, x.4));
        level = λ u last h lt all leads. elim (cases_lt (length u) (moves + 1)) as (λ _. IsKeptBefore s members list (length list) last h) [
          | inl less ↦ (let x = known.level u last h less all leads in (x.0, x.1, slice_get_within list x.0 x.1 x.3, x.3, x.4))
          | inr least ↦ behind u last h (omega (arith, lt, least)) all leads
        ];
        within = omega arith;
        now = λ i kept le lt is. known.next i kept (omega (arith, le, ended)) is;
        next = λ i kept le is. (let lt = slice_get_within list i kept is in absurd (omega (arith, lt, le)));
      }

    -- the node at this place is gone through
    module _ (less : place < end) (kept : Kept) (at : slice_get list place ≡ Some kept) where
      reached : IsReachedIn s members moves kept
      reached = known.now place kept (omega arith) less at

      module _ (new : List Kept) (adds : AddsNext members (its s kept) kept.alive list new) (good : (x : State) (h : List Event) → IsFor s members x h kept → IsGoodIfEnded (IsOneOf members) x h) where
        stood : (i : ℕ) (one : Kept) → i < length list → slice_get new i ≡ Some one → slice_get list i ≡ Some one
        stood i one lt is = at_first list adds.grows.0 i one lt (subst (λ (x : List Kept). slice_get x i ≡ Some one) adds.grows.1 is)

        still : (i : ℕ) (one : Kept) → slice_get list i ≡ Some one → slice_get new i ≡ Some one
        still i one is = subst (λ (x : List Kept). slice_get x i ≡ Some one) (sym adds.grows.1) (at_left list adds.grows.0 i one is)

        pub searched_more : AreSearched members s new (place + 1) moves end
        searched_more = record {
          good = λ i one lt is x h for. (let within = known.within in elim (cases_lt i place) as (λ _. IsGoodIfEnded (IsOneOf members) x h) [
            | inl before ↦ known.good i one before (stood i one (omega (arith, before, less, within)) is) x h for
            | inr least ↦
                (let here : i ≡ place = omega (arith, lt, least) in
                let same : kept ≡ one = same_Some kept one (sym at ∙ (ap (slice_get list) (sym here) ∙ stood i one (omega (arith, here, less, within)) is)) in
                good x h (subst (IsFor s members x h) (sym same) for))
          ]);
          past = λ u last h lt all leads. (let x = known.past u last h lt all leads in let before = x.2 in (x.0, x.1, omega (arith, before), still x.0 x.1 x.3, x.4));
          level = λ u last h lt all leads. (let x = known.level u last h lt all leads in (x.0, x.1, x.2, still x.0 x.1 x.3, x.4));
          within = (let within = known.within in let long = ap length adds.grows.1 in let sum = length-append list adds.grows.0 in omega (arith, within, long, sum));
          now = λ i one le lt is. (let within = known.within in known.now i one (omega (arith, le)) lt (stood i one (omega (arith, lt, within)) is));
          next = λ i one le is. elim (at_either list adds.grows.0 i one (subst (λ (x : List Kept). slice_get x i ≡ Some one) adds.grows.1 is)) as (λ _. IsReachedIn s members (moves + 1) one) [
            | inl old ↦ known.next i one le old.1
            | inr more ↦ reached_next moves kept reached one (all_at (λ (k : Kept). CanStandThere s.component s.matrix k × IsNext members (its s kept) kept.alive k) adds.grows.0 adds.grows.2 more.0 one more.2)
          ];
        }

      -- it is bad, and none before it is
      pub shortest_bad : FirstTells s → ((end : State) (h : List Event) → IsFor s members end h kept → IsBadAt (IsOneOf members) end h) → IsShortestBad (IsOneOf members) s moves
      shortest_bad tells bad =
          let way = reached.way in
          record {
            schedule = way.schedule;
            long = reached.long;
            bad = record { end = way.end; history = way.history; leads = way.leads; holds = bad way.end way.history way.is };
            shortest = λ v lt ends.
                (let first = tells v ends.end ends.history ends.leads ends.holds.0 in
                let long = first.long in
                let x = known.past first.schedule ends.end first.before (omega (arith, lt, long)) first.first first.leads in
                let good = known.good x.0 x.1 x.2 x.3 ends.end first.before x.4 ends.holds.0 in
                ends.holds.1 (good_reordered (IsOneOf members) ends.end first.before ends.history first.reordered good));
          }
