-- What is known below a state, and after moves that commute.
use Rattle.std.proofs.Common.{◌≡◌, ℕ, zero, suc, ◌-◌, ◌<◌, ◌≤◌, ◌⊎◌, List, [], ◌∷◌, ◌++◌, Option, None, Some, IfSome, Bor, slice_get, slice_set, length, length-set, unwrap_or, refl, sym, ◌∙◌, ap, subst, inl, inr, arith}
use Rattle.std.specs.List.{Contains}
use Rattle.std.specs.Prelude.{All}
use Rattle.std.proofs.lemmas.Bool.{cases_eq, cases_lt}
use Rattle.std.proofs.lemmas.Option.{slice_get_within}
use Rattle.lu_horizon.proofs.OwnLaws.{get_set_other, get_set_same}
use Rattle.lu_machine.specs.declared.counts.Counts.{Counts}
use Rattle.lu_machine.specs.declared.event.Event.{Event}
use Rattle.lu_machine.specs.States.{State}
use Rattle.lu_machine.specs.Steps.{Step, picks_of}
use Rattle.lu_machine.specs.Runs.{with_event}
use Rattle.lu_machine.proofs.Keeping.{step_moved}
use Rattle.lu_machine.proofs.StepLaws.{step_feasible, step_same}
use Rattle.lu_horizon.specs.Dead.{DeadTable, IsDeadTable}
use Rattle.lu_orders.specs.Solo.{only_move}
use Rattle.lu_history.specs.declared.serial.SerialOp.{SerialOp}
use Rattle.lu_witness.specs.Witnesses.{IsMember}
use Rattle.lu_tree.specs.declared.commuting.TwoUndos.{TwoUndos}
use Rattle.lu_tree.specs.declared.known.Known.{Known}
use Rattle.lu_tree.specs.declared.known.Hints.{Hints}
use Rattle.lu_tree.specs.Alike.{AreAlike}
use Rattle.lu_tree.specs.Known.{AreFrom, AreKnownAfter, Commute, HaveSameEvents, IsAmongOr, IsHint, IsHintOr, IsKid, IsKnown, IsKnownBy, KidsTellNoMore, MadeBoth, MoveNotBoth, Moves, MovesBoth, TellsNoMore, counts_of, kids_of}
use Rattle.lu_tree.specs.Reordered.{AreReordered, AreUnordered}
use Rattle.lu_tree.specs.Walks.{AreBelow}
use Rattle.lu_tree.proofs.AlikeRuns.{known_alike}
use Rattle.lu_tree.proofs.Reordering.{either_order, reordered_both, reordered_then}

-- the hint of a thread, if there is one
pub hint_there : (hints : Hints) (t i : ℕ) (slot : Option (Bor Known)) → i ≡ t → slice_get hints.by_thread i ≡ Some slot → IfSome slot (λ b. IsHint hints t b.now)
hint_there hints t i None is there = tt
hint_there hints t i (Some b) is there = (b, subst (λ x. slice_get hints.by_thread x ≡ Some (Some b)) is there, refl)

some_same : {A : Type 0} (x y : A) → Some x ≡ Some y → x ≡ y
some_same x y is = ap (λ o. unwrap_or o x) is

slot_set : (slots : List (Option (Bor Known))) (t i : ℕ) (b : Bor Known) → i ≡ t → (u : ℕ) (known : Known) → (c : Bor Known) × (slice_get (slice_set slots i (Some b)) u ≡ Some (Some c)) × (c.now ≡ known) → ((c : Bor Known) × (slice_get slots u ≡ Some (Some c)) × (c.now ≡ known)) ⊎ ((u ≡ t) × (known ≡ b.now))
slot_set slots t i b is u known hint =
    elim (cases_eq u i) [
      | inl same ↦ elim (cases_lt i (length slots)) [
        | inl lt ↦
            (let there : slice_get (slice_set slots i (Some b)) u ≡ Some (Some b) = rw same (get_set_same slots i (Some b) lt) in
            let slot : Some b ≡ Some hint.0 = some_same (Some b) (Some hint.0) (sym there ∙ hint.1) in
            let one : b ≡ hint.0 = some_same b hint.0 slot in
            inr (same ∙ is, sym hint.2 ∙ ap (λ (x : Bor Known). x.now) (sym one)))
        | inr ge ↦
            (let within = slice_get_within (slice_set slots i (Some b)) u (Some hint.0) hint.1 in
            let long : length (slice_set slots i (Some b)) ≡ length slots = length-set slots i (Some b) in
            absurd (omega arith))
      ]
      | inr other ↦ inl (hint.0, sym (get_set_other slots i u (Some b) other) ∙ hint.1, hint.2)
    ]

pub hint_added : (old : Hints) (t i : ℕ) (b : Bor Known) → i ≡ t → IsHintOr t b.now old (record { by_thread = slice_set old.by_thread i (Some b) })
hint_added old t i b is = λ u known hint. slot_set old.by_thread t i b is u known hint

-- moves that were made in both orders
pub commute_seen : (table : DeadTable) (t u : ℕ) (s end other : State) (there here : TwoUndos) → MadeBoth t u s end there → MadeBoth u t s other here → AreAlike table end other → HaveSameEvents there here → Commute table t u s
commute_seen table t u s end other there here one two alike history =
    let back : MovesBoth u t s other there.second.event there.first.event = rw (history.0, history.1) two.moves in
    (end, other, there.first.event, there.second.event, one.moves, back, alike, history.2)

-- an only move leads to one state
moves_same : (t : ℕ) (s a b : State) (e f : Option Event) → Moves t s a e → Moves t s b f → (a ≡ b) × (e ≡ f)
moves_same t s a b e f x y = step_same s (only_move t) a b e f x.1 y.1

pub both_same : (t u : ℕ) (s a b : State) (e f g h : Option Event) → MovesBoth t u s a e f → MovesBoth t u s b g h → (a ≡ b) × (e ≡ g) × (f ≡ h)
both_same t u s a b e f g h x y =
    let first = moves_same t s x.0 y.0 e g x.1 y.1 in
    let on : Moves u y.0 a f = subst (λ r. Moves u r a f) first.0 x.2 in
    let second = moves_same u y.0 a b f h on y.2 in
    (second.0, first.1, second.1)

-- where u has not one pick after the only move of t, they can't both be made
pub not_both : (t u : ℕ) (s r : State) (event : Option Event) → Moves t s r event → (picks_of r u ≡ 1 → ⊥) → MoveNotBoth t u s
not_both t u s r event moves not end e f both =
    let same = moves_same t s both.0 r e event both.1 moves in
    not (subst (λ x. picks_of x u ≡ 1) same.0 both.2.0)

-- moves that commute, and were made in both orders, led to states that are alike, with one history
pub commute_made : (table : DeadTable) (t u : ℕ) (s end other : State) (there here : TwoUndos) → MadeBoth t u s end there → MadeBoth u t s other here → Commute table t u s → AreAlike table end other × HaveSameEvents there here
commute_made table t u s end other there here one two (last, behind, e, f, first, second, alike, either) =
    let a = both_same t u s last end e f there.first.event there.second.event first one.moves in
    let b = both_same u t s behind other f e here.first.event here.second.event second two.moves in
    let unordered : AreUnordered there.first.event there.second.event = rw (← a.1, ← a.2) either in
    (subst (λ x. AreAlike table end x) b.0 (subst (λ x. AreAlike table x behind) a.0 alike), (sym a.1 ∙ b.2, sym a.2 ∙ b.1, unordered))

-- their events have no more precedence in the other order
pub commute_unordered : (table : DeadTable) (t u : ℕ) (s end : State) (there : TwoUndos) → MadeBoth t u s end there → Commute table t u s → AreUnordered there.first.event there.second.event
commute_unordered table t u s end there one (last, behind, e, f, first, second, alike, either) =
    let a = both_same t u s last end e f there.first.event there.second.event first one.moves in
    rw (← a.1, ← a.2) either

-- one hint more
pub from_more : (table : DeadTable) (s : State) (hints : Hints) (known : Known) (t u : ℕ) (first below : Known) (old new : Hints) → AreFrom table s hints known t old → IsHintOr u below old new → Commute table u t s → IsKnownBy hints known u first → IsKid first t below → AreFrom table s hints known t new
from_more table s hints known t u first below old new are more commute by kid = λ v other hint.
    elim (more v other hint) [
      | inl before ↦ are v other before
      | inr is ↦ rw (is.0, is.1) (commute, first, by, kid)
    ]

-- none is an element of an empty list
none_kid : {A : Type 0} (xs : List A) (x : A) → xs ≡ [] → Contains xs x → ⊥
none_kid [] x none in_xs = omega (arith, in_xs.1)
none_kid (y ∷ ys) x none in_xs = omega (arith, ap length none)

module _ (Set : List SerialOp → Type 0) where
  pub known_below : (s : State) (h : List Event) (left : ℕ) (known : Known) → IsKnown Set s h left known → AreBelow Set s h left (counts_of known)
  known_below s h zero known is = is.0
  known_below s h (suc left) known is = is.0

  pub kids_known : (s : State) (h : List Event) (left : ℕ) (known : Known) → IsKnown Set s h left known → AreKnownAfter Set s h (left - 1) (IsKid known)
  kids_known s h zero known is = λ t below kid. absurd (none_kid (kids_of known) (t, below) is.1 kid)
  kids_known s h (suc left) known is =
      let one : left ≡ suc left - 1 = omega arith in
      subst (λ n. AreKnownAfter Set s h n (IsKid known)) one is.1

  pub known_alone : (s : State) (h : List Event) (left : ℕ) (known : Known) (counts : Counts) → counts_of known ≡ counts → kids_of known ≡ [] → AreBelow Set s h left counts → IsKnown Set s h left known
  known_alone s h zero known counts is none below = (subst (AreBelow Set s h zero) (sym is) below, none)
  known_alone s h (suc left) known counts is none below = (subst (AreBelow Set s h (suc left)) (sym is) below, λ t kid in_kids. absurd (none_kid (kids_of known) (t, kid) none in_kids))

  pub none_after : (s : State) (h : List Event) (left : ℕ) (known : Known) → kids_of known ≡ [] → AreKnownAfter Set s h left (IsKid known)
  none_after s h left known none = λ t kid in_kids. absurd (none_kid (kids_of known) (t, kid) none in_kids)

  pub known_with : (s : State) (h : List Event) (left : ℕ) (known : Known) → 1 ≤ left → AreBelow Set s h left (counts_of known) → AreKnownAfter Set s h (left - 1) (IsKid known) → IsKnown Set s h left known
  known_with s h zero known some below kids = absurd (omega arith)
  known_with s h (suc left) known some below kids =
      let one : suc left - 1 ≡ left = omega arith in
      (below, subst (λ n. AreKnownAfter Set s h n (IsKid known)) one kids)

  -- what is told after the only move of thread t is known where it leads
  pub after_here : (s : State) (h : List Event) (left t : ℕ) (below : Known) (IsTold : ℕ → Known → Type 0) → AreKnownAfter Set s h left IsTold → IsTold t below → (next : State) (event : Option Event) → Moves t s next event → AreBelow Set next (h ++ with_event event []) left (counts_of below)
  after_here s h left t below IsTold are told next event moves = known_below next (h ++ with_event event []) left below (are t below told next event moves)

  -- fewer are told of
  pub after_same : (s : State) (h : List Event) (left : ℕ) (old new : Known) → kids_of new ≡ kids_of old → AreKnownAfter Set s h left (IsKid old) → AreKnownAfter Set s h left (IsKid new)
  after_same s h left old new same are = λ t below kid. are t below (subst (λ x. Contains x (t, below)) same kid)

  -- one more is told of
  pub behind_more : (s : State) (h : List Event) (left t : ℕ) (old new below : Known) → IsAmongOr (t, below) (kids_of old) (kids_of new) → AreKnownAfter Set s h left (IsKid old) → ((next : State) (event : Option Event) → Moves t s next event → IsKnown Set next (h ++ with_event event []) left below) → AreKnownAfter Set s h left (IsKid new)
  behind_more s h left t old new below among are one = λ u kid in_kids.
      elim (among (u, kid) in_kids) [
        | inl before ↦ are u kid before
        | inr is ↦ (λ next event moves.
            (let thread : u ≡ t = ap (λ p. p.0) is in
            let known : kid ≡ below = ap (λ p. p.1) is in
            rw known (one next event (subst (λ x. Moves x s next event) thread moves))))
      ]

  -- what is known where a move of thread t leads
  pub known_after : (s : State) (h : List Event) (left t p : ℕ) (next : State) (event : Option Event) (k : List Event) (below : Known) → Step s (record { thread = t; pick = p }) next event → k ≡ h ++ with_event event [] → IsKnown Set next k left below → (there : State) (other : Option Event) → Moves t s there other → IsKnown Set there (h ++ with_event other []) left below
  known_after s h left t p next event k below step is known there other moves =
      let feasible : p < picks_of s t = step_feasible s (record { thread = t; pick = p }) next event step in
      let only : p ≡ 0 = omega (arith, moves.0) in
      let first : Step s (only_move t) next event = subst (λ x. Step s (record { thread = t; pick = x }) next event) only step in
      let at : (there ≡ next) × (other ≡ event) = step_same s (only_move t) there next other event moves.1 first in
      rw (at.0, at.1, ← is) known

  -- what is known after a history is known after a reordered one
  below_reordered : (s : State) (h k : List Event) (left : ℕ) (counts : Counts) → AreReordered h k → AreBelow Set s h left counts → AreBelow Set s k left counts
  below_reordered s h k left counts re below = record { good = λ g u on. below.good g u (reordered_both h k g re on); numbers = below.numbers }

  known_reordered : (s : State) (h k : List Event) (left : ℕ) (known : Known) → AreReordered h k → IsKnown Set s h left known → IsKnown Set s k left known
  known_reordered s h k zero known re is = (below_reordered s h k zero (counts_of known) re is.0, is.1)
  known_reordered s h k (suc left) known re is = (below_reordered s h k (suc left) (counts_of known) re is.0, λ t below kid next event moves. known_reordered next (h ++ with_event event []) (k ++ with_event event []) left below (reordered_then h k (with_event event []) re) (is.1 t below kid next event moves))

  -- Where thread t moves first: what is known after a move that commutes with that is known there,
  -- too.
  pub hints_on : (table : DeadTable) (s : State) → IsDeadTable s.component table → (h : List Event) (left : ℕ) (hints : Hints) (known : Known) (t p : ℕ) (new : Hints) → AreKnownAfter Set s h left (IsHint hints) → AreKnownAfter Set s h left (IsKid known) → AreFrom table s hints known t new → (next : State) (event : Option Event) → Step s (record { thread = t; pick = p }) next event → AreKnownAfter Set next (h ++ with_event event []) (left - 1) (IsHint new)
  hints_on table s dead h left hints known t p new by_hint by_kid from next event step = λ u below hint there last moves.
      (let c = from u below hint in
      let commute : Commute table u t s = c.0 in
      let end = commute.0 in
      let other = commute.1 in
      let e = commute.2 in
      let f = commute.3 in
      let one = commute.4 in
      let two = commute.5 in
      let feasible : p < picks_of s t = step_feasible s (record { thread = t; pick = p }) next event step in
      let only : p ≡ 0 = omega (arith, two.1.0) in
      let first : Step s (only_move t) next event = subst (λ x. Step s (record { thread = t; pick = x }) next event) only step in
      let at : (next ≡ two.0) × (event ≡ f) = step_same s (only_move t) next two.0 event f first two.1.1 in
      let then : Step two.0 (only_move u) there last = subst (λ x. Step x (only_move u) there last) at.0 moves.1 in
      let to : (there ≡ other) × (last ≡ e) = step_same two.0 (only_move u) there other last e then two.2.1 in
      let before = behind u c.1 c.2 one.0 e one.1 in
      let kid = kids_known one.0 (h ++ with_event e []) left c.1 before t below c.3 end f one.2 in
      let both = either_order h e f commute.7 in
      let component : end.component ≡ s.component = (step_moved one.0 (only_move t) end f one.2.1).component ∙ (step_moved s (only_move u) one.0 e one.1.1).component in
      let dead_there : IsDeadTable end.component table = subst (λ x. IsDeadTable x table) (sym component) dead in
      let here = known_reordered end ((h ++ with_event e []) ++ with_event f []) ((h ++ with_event f []) ++ with_event e []) (left - 1) below both kid in
      rw (at.1, to.0, to.1) (known_alike table Set end other dead_there commute.6 ((h ++ with_event f []) ++ with_event e []) (left - 1) below here))
    where
      behind : (u : ℕ) (first : Known) → IsKnownBy hints known u first → (r : State) (e : Option Event) → Moves u s r e → IsKnown Set r (h ++ with_event e []) left first
      behind u first (inl hint) = by_hint u first hint
      behind u first (inr kid) = by_kid u first kid

-- what has no element is empty
no_elements : {A : Type 0} (xs : List A) → ((x : A) → Contains xs x → ⊥) → xs ≡ []
no_elements [] none = refl
no_elements (x ∷ xs) none = absurd (none x (0, omega arith, refl))

-- what has the same numbers, and kids that tell no more
pub tells_no_more : (all some : Known) → counts_of some ≡ counts_of all → KidsTellNoMore all some → TellsNoMore all some
tells_no_more all some counts kids members s h zero is =
    (subst (AreBelow (IsMember members) s h zero) (sym counts) is.0, no_elements (kids_of some) (λ kid there. none_kid (kids_of all) (kid.0, (kids kid.0 kid.1 there).0) is.1 (kids kid.0 kid.1 there).1))
tells_no_more all some counts kids members s h (suc left) is = (
  subst (AreBelow (IsMember members) s h (suc left)) (sym counts) is.0,
  λ t below kid next event moves.
      (let more = kids t below kid in
      more.2 members next (h ++ with_event event []) left (is.1 t more.0 more.1 next event moves)),
)

-- one kid more
pub kids_more_told : (all old new : Known) (t : ℕ) (more below : Known) → KidsTellNoMore all old → IsAmongOr (t, below) (kids_of old) (kids_of new) → IsKid all t more → TellsNoMore more below → KidsTellNoMore all new
kids_more_told all old new t more below are among kid tells = λ u known there.
    elim (among (u, known) there) [
      | inl before ↦ are u known before
      | inr is ↦
          (let thread : u ≡ t = ap (λ p. p.0) is in
          let same : known ≡ below = ap (λ p. p.1) is in
          rw (thread, same) (more, kid, tells))
    ]

-- nothing is told of kids
pub no_kids_told : (all some : Known) → kids_of some ≡ [] → KidsTellNoMore all some
no_kids_told all some none = λ t below kid. absurd (none_kid (kids_of some) (t, below) none kid)

-- the first of these, and those after it
pub first_and_rest : {A : Type 0} (all xs rest : List A) (x : A) → xs ≡ x ∷ rest → All (Contains all) xs → Contains all x × All (Contains all) rest
first_and_rest {A} all xs rest x is each = at (subst (λ (ys : List A). All (Contains all) ys) is each)
  where
    at : All (Contains all) (x ∷ rest) → Contains all x × All (Contains all) rest
    at of = (of 0 x (omega arith), λ k d below. of (suc k) d (omega arith))
