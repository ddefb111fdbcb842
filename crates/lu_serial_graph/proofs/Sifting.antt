-- Endings of one outcome, and their rests.
use Rattle.std.proofs.Common.{arith, ◌≡◌, ◌<◌, ◌+◌, ℕ, zero, suc, Bool, true, false, ◌||◌, List, [], ◌∷◌, ◌++◌, length, take, get_or, Option, Some, None, slice_get, refl, sym, ◌∙◌, ap, subst, inl, inr}
use Rattle.std.specs.Bool.{Decides}
use Rattle.std.specs.Prelude.{nat_eq}
use Rattle.std.specs.List.{All, list_any}
use Rattle.std.specs.List.Sorted.{IsPermutation}
use Rattle.std.proofs.lemmas.Bool.Decides.{Decides-eqb, Decides-like}
use Rattle.std.proofs.lemmas.List.{append-nil, take_more}
use Rattle.std.proofs.lemmas.List.Elements.{All-cons, All-nil}
use Rattle.std.proofs.lemmas.List.Sorted.{All-permutation, IsPermutation-sym}
use Rattle.lu_component.specs.Component.{Component}
use Rattle.lu_test.specs.Matrix.{Matrix}
use Rattle.lu_machine.specs.declared.position.Position.{Position}
use Rattle.lu_machine.specs.declared.thread.Thread.{Thread}
use Rattle.lu_machine.specs.Positions.{CanStandAt}
use Rattle.lu_machine.specs.States.{State}
use Rattle.lu_machine.proofs.Positions.{HaveSame, position_eq, same_position}
use Rattle.lu_history.specs.declared.serial.SerialOutcome.{SerialOutcome}
use Rattle.lu_history.specs.declared.serial.SerialOutcome.TheVariants.{Ret, Trap, Stuck}
use Rattle.lu_history.specs.contracts.serial.SerialOutcomePartialEq.TheImpl as equal
use Rattle.lu_serial_graph.specs.declared.alone.Ending.{Ending}
use Rattle.lu_serial_graph.specs.declared.answering.Answer.{Answer}
use Rattle.lu_serial_graph.specs.Playing.{AddsEndings, Comes, IsAmong, Lasts, state_at}
use Rattle.lu_serial_graph.specs.Answers.{AddsRest, AnswersFor, AreEndings, Asks, Differ, HasRest, IsAnswer, IsSifted}
use Rattle.lu_serial_graph.proofs.FirstMoves.{among_cases, among_left, among_right, among_one}

-- ---- outcomes

abbrev pub outcome_eq : SerialOutcome → SerialOutcome → Bool
outcome_eq = equal.ghosts.eq

pub same_outcomes : (a b : SerialOutcome) → Decides (outcome_eq a b) (a ≡ b)
same_outcomes (Ret m) (Ret n) = Decides-like (nat_eq m n) (λ is. ap Ret is) (λ is. cc) (Decides-eqb m n)
same_outcomes (Ret m) Trap = ((λ is. absurd (cc)), (λ is. absurd (cc)))
same_outcomes (Ret m) Stuck = ((λ is. absurd (cc)), (λ is. absurd (cc)))
same_outcomes Trap (Ret n) = ((λ is. absurd (cc)), (λ is. absurd (cc)))
same_outcomes Trap Trap = ((λ is. refl), (λ is. refl))
same_outcomes Trap Stuck = ((λ is. absurd (cc)), (λ is. absurd (cc)))
same_outcomes Stuck (Ret n) = ((λ is. absurd (cc)), (λ is. absurd (cc)))
same_outcomes Stuck Trap = ((λ is. absurd (cc)), (λ is. absurd (cc)))
same_outcomes Stuck Stuck = ((λ is. refl), (λ is. refl))

-- ---- rests

pub rests_same : (c : Component) (matrix : Matrix) (p q : Position) → HaveSame p q → state_at c matrix p ≡ state_at c matrix q
rests_same c matrix p q is =
    let make : List ℕ → List (Option ℕ) → List Thread → State = λ cells locks threads. record { component = c; matrix = matrix; cells = cells; locks = locks; threads = threads } in
    ap (λ x. make x p.locks.items p.threads.items) is.0
    ∙ (ap (λ x. make q.cells.items x p.threads.items) is.1.0
    ∙ ap (λ x. make q.cells.items q.locks.items x) is.1.1)

found_among : (p : Position) (rests : List Position) → list_any (λ y. position_eq y p) rests ≡ true → (q : Position) × IsAmong q rests × (position_eq q p ≡ true)
found_among p [] e = absurd cc
found_among p (q ∷ rests) e = by (position_eq q p) refl (found_among p rests) e
  where
    by : (b : Bool) → position_eq q p ≡ b → (list_any (λ y. position_eq y p) rests ≡ true → (x : Position) × IsAmong x rests × (position_eq x p ≡ true)) → (b || list_any (λ y. position_eq y p) rests) ≡ true → (x : Position) × IsAmong x (q ∷ rests) × (position_eq x p ≡ true)
    by true is on e = (q, inl refl, is)
    by false is on e = (let r = on e in (r.0, inr r.1, r.2))

pub rest_there : (p : Position) (rests : List Position) → list_any (λ y. position_eq y p) rests ≡ true → AddsRest p rests rests
rest_there p rests e = record {
  stay = λ x h. h;
  here = λ c matrix. (let q = found_among p rests e in (q.0, q.1, rests_same c matrix q.0 p ((same_position q.0 p).0 q.2)));
  each = λ x h. inl h;
}

pub rest_new : (p : Position) (rests : List Position) → AddsRest p rests (rests ++ p ∷ [])
rest_new p rests = record {
  stay = λ x h. among_left x rests (p ∷ []) h;
  here = λ c matrix. (p, among_right p rests (p ∷ []) (inl refl), refl);
  each = λ x h. elim (among_cases x rests (p ∷ []) h) [ inl a ↦ inl a | inr b ↦ inr (among_one x p b) ];
}

-- ---- sifting

-- the endings so far are sifted, and the rest is to come
pub record Sifting (all rest : List Ending) (outcome : SerialOutcome) (rests : List Position) : Type 0 where
  pub front : List Ending
  pub parts : all ≡ front ++ rest
  pub sifted : IsSifted front outcome rests

pub sift_none : (all : List Ending) (outcome : SerialOutcome) → Sifting all all outcome []
sift_none all outcome = record {
  front = [];
  parts = refl;
  sifted = record { one = λ e h. absurd h; all = λ e c matrix h. absurd h; each = λ p h. absurd h };
}

append_one : {A : Type 0} (xs : List A) (x : A) (ys : List A) → xs ++ x ∷ ys ≡ (xs ++ x ∷ []) ++ ys
append_one [] x ys = refl
append_one (y ∷ xs) x ys = ap (λ z. y ∷ z) (append_one xs x ys)

pub sift_more : (all rest : List Ending) (x : Ending) (outcome : SerialOutcome) (old new : List Position) → x.outcome ≡ outcome → AddsRest x.position old new → Sifting all (x ∷ rest) outcome old → Sifting all rest outcome new
sift_more all rest x outcome old new is adds s = record {
  front = s.front ++ x ∷ [];
  parts = s.parts ∙ append_one s.front x rest;
  sifted = record {
    one = λ e h. elim (among_cases e s.front (x ∷ []) h) [ inl a ↦ s.sifted.one e a | inr b ↦ ap (λ (y : Ending). y.outcome) (among_one e x b) ∙ is ];
    all = λ e c matrix h. elim (among_cases e s.front (x ∷ []) h) [
      | inl a ↦ (let r = s.sifted.all e c matrix a in (r.0, adds.stay r.0 r.1, r.2))
      | inr b ↦ subst (λ (y : Ending). HasRest c matrix new (state_at c matrix y.position)) (sym (among_one e x b)) (adds.here c matrix)
    ];
    each = λ p h. elim (adds.each p h) [
      | inl a ↦ (let r = s.sifted.each p a in (r.0, among_left r.0 s.front (x ∷ []) r.1, r.2))
      | inr b ↦ (x, among_right x s.front (x ∷ []) (inl refl), sym b)
    ];
  };
}

among_first : (xs : List Ending) (x : Ending) → slice_get xs 0 ≡ Some x → IsAmong x xs
among_first [] x e = absurd cc
among_first (y ∷ xs) x e = inl (let s : y ≡ x = cc in sym s)

pub sift_all : (all : List Ending) (x : Ending) (outcome : SerialOutcome) (rests : List Position) → slice_get all 0 ≡ Some x → Sifting all [] outcome rests → IsSifted all outcome rests × ((p : Position) × IsAmong p rests)
sift_all all x outcome rests first s =
    let sifted : IsSifted all outcome rests = subst (λ y. IsSifted y outcome rests) (sym (s.parts ∙ append-nil s.front)) s.sifted in
    let c : Component = record { name = []; local = 0; arrays = []; locks = []; operations = [] } in
    let matrix : Matrix = record { setup = []; threads = [] } in
    let some = sifted.all x c matrix (among_first all x first) in
    (sifted, (some.0, some.1))

-- ---- endings from several rests

pub among_at : {A : Type 0} (xs : List A) (i : ℕ) (x d : A) → i < length xs → get_or xs i d ≡ x → IsAmong x xs
among_at [] i x d lt is = absurd (omega (arith, lt))
among_at (y ∷ xs) zero x d lt is = inl (sym is)
among_at (y ∷ xs) (suc i) x d lt is = inr (among_at xs i x d (omega (arith, lt)) is)

pub taken_more : (xs : List Position) (i : ℕ) (x : Position) → i < length xs → x ≡ get_or xs i x → take (i + 1) xs ≡ take i xs ++ x ∷ []
taken_more xs i x lt is = take_more xs i x lt ∙ ap (λ y. take i xs ++ y ∷ []) (sym is)

pub endings_none : (c : Component) (matrix : Matrix) (t n : ℕ) → AreEndings c matrix [] t n []
endings_none c matrix t n = record {
  short = λ p h l. absurd h;
  all = λ p o end h l. absurd h;
  each = λ o end h. absurd h.1;
  some = λ p h. absurd h;
  stand = λ e h. absurd h;
}

pub endings_more : (c : Component) (matrix : Matrix) (rests : List Position) (p : Position) (t n : ℕ) (old new : List Ending) → AreEndings c matrix rests t n old → AddsEndings (state_at c matrix p) t None n old new → AreEndings c matrix (rests ++ p ∷ []) t n new
endings_more c matrix rests p t n old new are adds = record {
  short = λ q h l. elim (among_cases q rests (p ∷ []) h) [
    | inl a ↦ are.short q a l
    | inr b ↦ adds.short (subst (λ y. Lasts (state_at c matrix y) t n) (among_one q p b) l)
  ];
  all = λ q o end h l. elim (among_cases q rests (p ∷ []) h) [
    | inl a ↦ adds.grows.stay o end (are.all q o end a l)
    | inr b ↦ adds.grows.all o end (subst (λ y. Comes (state_at c matrix y) t o end) (among_one q p b) l)
  ];
  each = λ o end h. elim (adds.grows.each o end h) [
    | inl a ↦ (let r = are.each o end a in (r.0, among_left r.0 rests (p ∷ []) r.1, r.2))
    | inr b ↦ (p, among_right p rests (p ∷ []) (inl refl), b)
  ];
  some = λ q h. elim (among_cases q rests (p ∷ []) h) [
    | inl a ↦ (let r = are.some q a in (r.0, r.1, adds.grows.stay r.0 r.1 r.2))
    | inr b ↦ (let g = adds.some in (g.0, g.1, adds.grows.all g.0 g.1 g.2))
  ];
  stand = adds.grows.stand are.stand;
}

pub answers_all : (c : Component) (matrix : Matrix) (rests : List Position) (t n : ℕ) (endings : List Ending) (answer : Answer) → AreEndings c matrix rests t n endings → AnswersFor endings (Some answer) → IsAnswer c matrix rests t n answer
answers_all c matrix rests t n endings answer are (sifted, some) = record {
  short = are.short;
  one = λ p o end h l. (let e = are.all p o end h l in sifted.one (record { outcome = o; position = e.0 }) e.1);
  all = λ p o end h l.
      (let e = are.all p o end h l in
      let r = sifted.all (record { outcome = o; position = e.0 }) c matrix e.1 in
      (r.0, r.1, r.2 ∙ e.2));
  each = λ q h.
      (let e = sifted.each q h in
      let r = are.each e.0.outcome (state_at c matrix e.0.position) (e.0.position, e.1, refl) in
      (r.0, r.1, subst (λ y. Comes (state_at c matrix r.0) t answer.outcome (state_at c matrix y)) e.2 (subst (λ y. Comes (state_at c matrix r.0) t y (state_at c matrix e.0.position)) (sifted.one e.0 e.1) r.2)));
  some = some;
  stand = λ q h. (let e = sifted.each q h in subst (λ y. CanStandAt c matrix y) e.2 (are.stand e.0 e.1));
}

-- ---- in another order

all_among : (xs ys : List Position) → ((p : Position) → IsAmong p ys → IsAmong p xs) → All (λ p. IsAmong p xs) ys
all_among xs [] h = All-nil (λ p. IsAmong p xs)
all_among xs (y ∷ ys) h = All-cons (λ p. IsAmong p xs) y ys (h y (inl refl)) (all_among xs ys (λ p a. h p (inr a)))

at_among : (xs ys : List Position) → All (λ p. IsAmong p xs) ys → (p : Position) → IsAmong p ys → IsAmong p xs
at_among xs [] all p h = absurd h
at_among xs (y ∷ ys) all p (inl is) = subst (λ q. IsAmong q xs) (sym is) (all 0 y (omega arith))
at_among xs (y ∷ ys) all p (inr h) = at_among xs ys (λ k d lt. all (suc k) d (omega (arith, lt))) p h

pub among_ordered : (xs ys : List Position) → IsPermutation xs ys → (p : Position) → IsAmong p ys → IsAmong p xs
among_ordered xs ys is = at_among xs ys (All-permutation (λ p. IsAmong p xs) xs ys is (all_among xs xs (λ p h. h)))

-- the answer is the same, whatever the order of its rests
pub answer_ordered : (c : Component) (matrix : Matrix) (rests : List Position) (t n : ℕ) (answer new : Answer) → new.outcome ≡ answer.outcome → IsPermutation answer.rests.items new.rests.items → IsAnswer c matrix rests t n answer → IsAnswer c matrix rests t n new
answer_ordered c matrix rests t n answer new outcome is h =
    let back = among_ordered answer.rests.items new.rests.items is in
    let forth = among_ordered new.rests.items answer.rests.items (IsPermutation-sym answer.rests.items new.rests.items is) in
    record {
      short = h.short;
      one = λ p o end a l. h.one p o end a l ∙ sym outcome;
      all = λ p o end a l. (let r = h.all p o end a l in (r.0, forth r.0 r.1, r.2));
      each = λ q a. (let r = h.each q (back q a) in (r.0, r.1, subst (λ o. Comes (state_at c matrix r.0) t o (state_at c matrix q)) (sym outcome) r.2));
      some = (h.some.0, forth h.some.0 h.some.1);
      stand = λ q a. h.stand q (back q a);
    }

pub stands_here : (s : State) (c : Component) (matrix : Matrix) (p : Position) → s.component ≡ c → s.matrix ≡ matrix → state_at s.component s.matrix p ≡ state_at c matrix p
stands_here s c matrix p e f = ap (λ x. state_at x s.matrix p) e ∙ ap (λ x. state_at c x p) f

-- no answer where there are endings: two outcomes
pub none_asked : (c : Component) (matrix : Matrix) (rests : List Position) (t n : ℕ) (endings : List Ending) → 0 < length rests → AreEndings c matrix rests t n endings → AnswersFor endings None → Asks c matrix rests t n None
none_asked c matrix [] t n endings some are h = absurd (omega (arith, some))
none_asked c matrix (p ∷ rests) t n [] some are h = (let e = are.some p (inl refl) in absurd e.2.1)
none_asked c matrix (p ∷ rests) t n (x ∷ endings) some are (inl none) = absurd cc
none_asked c matrix (p ∷ rests) t n (x ∷ endings) some are (inr d) = inr (
    let one = are.each d.first.outcome (state_at c matrix d.first.position) (d.first.position, d.one, refl) in
    let other = are.each d.second.outcome (state_at c matrix d.second.position) (d.second.position, d.other, refl) in
    record {
      p = one.0;
      q = other.0;
      one = one.1;
      other = other.1;
      a = d.first.outcome;
      b = d.second.outcome;
      end = state_at c matrix d.first.position;
      last = state_at c matrix d.second.position;
      comes = one.2;
      also = other.2;
      apart = d.apart;
    })

pub two_differ : (all rest : List Ending) (first one : Ending) (outcome : SerialOutcome) (rests : List Position) → slice_get all 0 ≡ Some first → first.outcome ≡ outcome → (one.outcome ≡ outcome → ⊥) → Sifting all (one ∷ rest) outcome rests → Differ all
two_differ all rest first one outcome rests at is apart s = record {
  first = one;
  second = first;
  one = subst (IsAmong one) (sym s.parts) (among_right one s.front (one ∷ rest) (inl refl));
  other = among_first all first at;
  apart = λ same. apart (same ∙ is);
}

pub none_first : (all : List Ending) → slice_get all 0 ≡ None → all ≡ []
none_first [] e = refl
none_first (x ∷ all) e = absurd cc
