-- What goes on from a state, and the schedules that begin with one that leads there.
use Rattle.std.proofs.Common.{◌≡◌, ℕ, suc, ◌+◌, ◌≤◌, List, [], ◌∷◌, ◌++◌, length, map, refl, sym, ap, subst, inl, inr, arith, append_assoc, length-append}
use Rattle.lu_test.specs.declared.schedule.Move.{Move}
use Rattle.lu_machine.specs.declared.counts.Counts.{Counts}
use Rattle.lu_machine.specs.declared.event.Event.{Event}
use Rattle.lu_machine.specs.States.{State}
use Rattle.lu_machine.specs.Runs.{Leads}
use Rattle.lu_machine.specs.Ends.{HasMove, IsComplete, IsStuck}
use Rattle.lu_machine.specs.Order.{IsSmaller}
use Rattle.lu_machine.specs.Schedules.{IsEndedWithin, IsNumber, IsRising, Lists, Reaches}
use Rattle.lu_machine.proofs.Numbers.{number_same}
use Rattle.lu_machine.proofs.Paths.{leads_on, leads_same, leads_split}
use Rattle.lu_history.specs.declared.serial.SerialOp.{SerialOp}
use Rattle.lu_witness.specs.Goodness.{Any, IsGoodAt}
use Rattle.lu_tree.specs.Reordered.{AreReordered}
use Rattle.lu_tree.specs.Trees.{Below}
use Rattle.lu_tree.specs.Walks.{AreBelow, IsGoodAfter}
use Rattle.lu_tree.proofs.Reordering.{reordered_same}
use Rattle.lu_tree.proofs.Walking.{AllEndSo}

-- lists with the same moves in front of each
front_lists : (u : List Move) (list : List (List Move)) (v : List Move) → Lists (map (λ w. u ++ w) list) v → (w : List Move) × Lists list w × (v ≡ u ++ w)
front_lists u [] v is = absurd is
front_lists u (x ∷ list) v (inl e) = (x, inl refl, sym e)
front_lists u (x ∷ list) v (inr more) =
    let rest = front_lists u list v more in
    (rest.0, inr rest.1, rest.2)

lists_front : (u : List Move) (list : List (List Move)) (w : List Move) → Lists list w → Lists (map (λ w. u ++ w) list) (u ++ w)
lists_front u [] w is = absurd is
lists_front u (x ∷ list) w (inl e) = inl (ap (λ y. u ++ y) e)
lists_front u (x ∷ list) w (inr more) = inr (lists_front u list w more)

smaller_front : (u v w : List Move) → IsSmaller v w → IsSmaller (u ++ v) (u ++ w)
smaller_front [] v w less = less
smaller_front (m ∷ u) v w less = inr (refl, smaller_front u v w less)

rising_front : (u : List Move) (list : List (List Move)) → IsRising list → IsRising (map (λ w. u ++ w) list)
rising_front u [] rising = tt
rising_front u (x ∷ list) rising = (
  λ v is. (let there = front_lists u list v is in subst (λ y. IsSmaller (u ++ x) y) (sym there.2) (smaller_front u x there.0 (rising.0 there.0 there.1))),
  rising_front u list rising.1,
)

length_front : (u : List Move) (list : List (List Move)) → length (map (λ w. u ++ w) list) ≡ length list
length_front u [] = refl
length_front u (x ∷ list) = ap suc (length_front u list)

module _ (start : State) (u : List Move) (s : State) (e : List Event) (at : Leads start u s e) where
  reach_on : (P Q : State → List Event → Type 0) (w : List Move) → ((end : State) (k : List Event) → P end k → Q end (e ++ k)) → Reaches s w P → Reaches start (u ++ w) Q
  reach_on P Q w to r = record { end = r.end; history = e ++ r.history; leads = leads_on start u w s r.end e r.history at r.leads; holds = to r.end r.history r.holds }

  reach_back : (P : State → Type 0) (w : List Move) → Reaches start (u ++ w) (λ end _. P end) → Reaches s w (λ end _. P end)
  reach_back P w r =
      let split = leads_split start u w r.end r.history r.leads in
      let same = leads_same start u split.mid s split.first e split.begins at in
      record { end = r.end; history = split.second; leads = subst (λ x. Leads x w r.end split.second) same.0 split.goes_on; holds = r.holds }

  number_on : (P : State → Type 0) (Short Long : List Move → Type 0) (n : ℕ) → ((w : List Move) → Short w → Long (u ++ w)) → ((w : List Move) → Long (u ++ w) → Short w) → IsNumber (λ w. Any w × (Short w × Reaches s w (λ end _. P end))) n → IsNumber (λ v. Below u v × (Long v × Reaches start v (λ end _. P end))) n
  number_on P Short Long n to from number =
      record {
        list = map (λ w. u ++ w) number.list;
        all = record {
          rising = rising_front u number.list number.all.rising;
          only = λ v is.
              (let there = front_lists u number.list v is in
              let kind = number.all.only there.0 there.1 in
              subst (λ x. Below u x × (Long x × Reaches start x (λ end _. P end))) (sym there.2)
              ((there.0, refl), (to there.0 kind.1.0, reach_on (λ end _. P end) (λ end _. P end) there.0 (λ end k holds. holds) kind.1.1)));
          each = λ v kind.
              (let rest = kind.0.0 in
              let is : v ≡ u ++ rest = kind.0.1 in
              let on : Long (u ++ rest) × Reaches start (u ++ rest) (λ end _. P end) = subst (λ x. Long x × Reaches start x (λ end _. P end)) is kind.1 in
              subst (λ x. Lists (map (λ w. u ++ w) number.list) x) (sym is) (lists_front u number.list rest (number.all.each rest (tt, (from rest on.0, reach_back P rest on.1)))));
        };
        number = rw (length_front u number.list) number.number;
      }

  -- what goes on from s is what goes on from a schedule that leads there
  module _ (Set : List SerialOp → Type 0) (h g : List Event) (re : AreReordered h (g ++ e)) (left : ℕ) (counts : Counts) (below : AreBelow Set s h left counts) where
    shorter : (w : List Move) → length (u ++ w) ≤ length u + left → length w ≤ left
    shorter w short = let long = length-append u w in omega arith

    longer : (w : List Move) → length w ≤ left → length (u ++ w) ≤ length u + left
    longer w short = let long = length-append u w in omega arith

    as_short : (w : List Move) → length (u ++ w) ≡ length u + left → length w ≡ left
    as_short w short = let long = length-append u w in omega arith

    as_long : (w : List Move) → length w ≡ left → length (u ++ w) ≡ length u + left
    as_long w short = let long = length-append u w in omega arith

    ended_on : (w : List Move) → IsEndedWithin start (length u + left) (u ++ w) → IsEndedWithin s left w
    ended_on w (inl c) = inl (shorter w c.0, reach_back IsComplete w c.1)
    ended_on w (inr k) = inr (shorter w k.0, reach_back IsStuck w k.1)

    good_on : (end : State) (k : List Event) → IsGoodAfter Set (g ++ e) end k → IsGoodAfter Set g end (e ++ k)
    good_on end k good = subst (IsGoodAt Set end) (append_assoc g e k) good

    good_from : (v : List Move) → Below u v → IsEndedWithin start (length u + left) v → Reaches start v (IsGoodAfter Set g)
    good_from v b ended =
        let there = ended_on b.0 (subst (IsEndedWithin start (length u + left)) b.1 ended) in
        let good = below.good (g ++ e) b.0 re there in
        subst (λ x. Reaches start x (IsGoodAfter Set g)) (sym b.1) (reach_on (IsGoodAfter Set (g ++ e)) (IsGoodAfter Set g) b.0 good_on good)

    pub below_led : AllEndSo (IsGoodAfter Set g) start (length u + left) (Below u) counts
    below_led = record {
      good = good_from;
      numbers = record {
        complete = number_on IsComplete (λ w. length w ≤ left) (λ v. length v ≤ length u + left) counts.complete longer shorter below.numbers.complete;
        stuck = number_on IsStuck (λ w. length w ≤ left) (λ v. length v ≤ length u + left) counts.stuck longer shorter below.numbers.stuck;
        cut = number_on HasMove (λ w. length w ≡ left) (λ v. length v ≡ length u + left) counts.cut as_long as_short below.numbers.cut;
      };
    }

-- and the other way round
pub below_here : (Set : List SerialOp → Type 0) (s : State) (h : List Event) (left : ℕ) (counts : Counts) → ((k : List Event) → AreReordered h k → AllEndSo (IsGoodAfter Set k) s left (Below []) counts) → AreBelow Set s h left counts
below_here Set s h left counts all =
    let numbers = (all h (reordered_same h)).numbers in
    record {
      good = λ k u re ended. (all k re).good u (u, refl) ended;
      numbers = record {
        complete = number_same (λ v. Below [] v × ((length v ≤ left) × Reaches s v (λ end _. IsComplete end))) (λ v. Any v × ((length v ≤ left) × Reaches s v (λ end _. IsComplete end))) counts.complete numbers.complete (λ v k. (tt, k.1)) (λ v k. ((v, refl), k.1));
        stuck = number_same (λ v. Below [] v × ((length v ≤ left) × Reaches s v (λ end _. IsStuck end))) (λ v. Any v × ((length v ≤ left) × Reaches s v (λ end _. IsStuck end))) counts.stuck numbers.stuck (λ v k. (tt, k.1)) (λ v k. ((v, refl), k.1));
        cut = number_same (λ v. Below [] v × ((length v ≡ left) × Reaches s v (λ end _. HasMove end))) (λ v. Any v × ((length v ≡ left) × Reaches s v (λ end _. HasMove end))) counts.cut numbers.cut (λ v k. (tt, k.1)) (λ v k. ((v, refl), k.1));
      };
    }
