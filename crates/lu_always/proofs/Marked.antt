-- How marking goes on.
use Rattle.std.proofs.Common.{arith, ◌≡◌, ◌↔◌, ◌⊎◌, ℕ, zero, suc, ◌+◌, ◌<◌, ◌≤◌, Bool, true, false, List, [], ◌∷◌, ◌++◌, length, Option, Some, None, if◌then◌else◌, slice_get, slice_set, refl, sym, ◌∙◌, ap, subst, inl, inr, length-append}
use Rattle.std.specs.List.{sum_by}
use Rattle.std.proofs.lemmas.Bool.{cases_lt}
use Rattle.std.proofs.lemmas.List.{length-set}
use Rattle.std.proofs.lemmas.List.Sums.{sum_by-cons}
use Rattle.std.proofs.lemmas.Option.{same_Some, slice_get_within}
use Rattle.lu_history.proofs.Events.{at_push, kept_at, last_at}
use Rattle.lu_serial.proofs.Opening.{same_or_not, slice_get_set_other, slice_get_set_same}
use Rattle.lu_client.specs.Stages.{IsIn}
use Rattle.lu_client.proofs.OneCalls.{within_some}
use Rattle.lu_always.specs.declared.sinks.Marking.{Marking}
use Rattle.lu_always.specs.Sinks.{Graph, HasEdge, IsFirstWithoutSink, IsSink, PathLeads, ReachesSink}
use Rattle.lu_always.specs.Marking.{AreMarked, AreSinks, AreSources, IsFirstUnmarked, IsMarked, IsUnmarked, Marks, MarksAll, MarksOne, Takes, unmarked}

-- it is one of the first n
abbrev pub IsAmong : ℕ → List ℕ → ℕ → Type 0
IsAmong n xs x = (k : ℕ) × (k < n) × (slice_get xs k ≡ Some x)

pub among_next : (xs : List ℕ) (n x y : ℕ) → slice_get xs n ≡ Some y → IsAmong (n + 1) xs x → IsAmong n xs x ⊎ (x ≡ y)
among_next xs n x y at among =
    let lt = among.1 in
    elim (cases_lt among.0 n) as (λ _. IsAmong n xs x ⊎ (x ≡ y)) [
      | inl less ↦ inl (among.0, less, among.2)
      | inr past ↦ (let same : among.0 ≡ n = omega (arith, lt, past) in inr (same_Some x y (sym among.2 ∙ (ap (slice_get xs) same ∙ at))))
    ]

pub among_more : (xs : List ℕ) (n x : ℕ) → IsAmong n xs x → IsAmong (n + 1) xs x
among_more xs n x among = let lt = among.1 in (among.0, omega (arith, lt), among.2)

pub among_all : (xs : List ℕ) (n x : ℕ) → length xs ≤ n → IsIn xs x → IsAmong n xs x
among_all xs n x past is = let lt = slice_get_within xs is.0 x is.1 in (is.0, omega (arith, past, lt), is.1)

-- ---- marks

abbrev weight : Bool → ℕ
weight b = if b then 0 else 1

one_fewer : (marks : List Bool) (i : ℕ) → slice_get marks i ≡ Some false → unmarked (slice_set marks i true) + 1 ≡ unmarked marks
one_fewer [] i at = absurd cc
one_fewer (b ∷ marks) zero at =
    let is : b ≡ false = same_Some b false at in
    let new : sum_by weight (true ∷ marks) ≡ 0 + sum_by weight marks = sum_by-cons weight true marks in
    let old : sum_by weight (b ∷ marks) ≡ 1 + sum_by weight marks = sum_by-cons weight b marks ∙ ap (λ (x : Bool). weight x + sum_by weight marks) is in
    omega (arith, new, old)
one_fewer (b ∷ marks) (suc i) at =
    let rest = one_fewer marks i at in
    let new : sum_by weight (b ∷ slice_set marks i true) ≡ weight b + sum_by weight (slice_set marks i true) = sum_by-cons weight b (slice_set marks i true) in
    let old : sum_by weight (b ∷ marks) ≡ weight b + sum_by weight marks = sum_by-cons weight b marks in
    omega (arith, rest, new, old)

-- nothing changes where the vertices are marked already
pub marks_none : (P : ℕ → Type 0) (old new : Marking) → new.marks.items ≡ old.marks.items → new.todo.items ≡ old.todo.items → ((i : ℕ) → P i → i < length old.marks.items → IsMarked old.marks.items i) → Marks P old new
marks_none P old new marks todo all = record {
  same = ap (λ (x : List Bool). length x) marks;
  kept = λ i is. subst (λ x. IsMarked x i) (sym marks) is;
  marked = λ i p lt. subst (λ x. IsMarked x i) (sym marks) (all i p lt);
  only = λ i is. inl (subst (λ x. IsMarked x i) marks is);
  stays = λ i is. subst (λ x. IsIn x i) (sym todo) is;
  noted = λ i is. inl (subst (λ x. IsMarked x i) marks is);
  right = λ i is. inl (subst (λ x. IsIn x i) todo is);
  fewer = (let a = ap (λ (x : List Bool). unmarked x) marks in let b = ap (λ (x : List ℕ). length x) todo in omega (arith, a, b));
}

pub marks_one : (vertex : ℕ) (old new : Marking) → slice_get old.marks.items vertex ≡ Some false → new.marks.items ≡ slice_set old.marks.items vertex true → new.todo.items ≡ old.todo.items ++ vertex ∷ [] → MarksOne vertex old new
marks_one vertex old new at marks todo =
    let set : IsMarked new.marks.items vertex = ap (λ x. slice_get x vertex) marks ∙ slice_get_set_same old.marks.items vertex true false at in
    let other : (i : ℕ) → (i ≡ vertex → ⊥) → slice_get new.marks.items i ≡ slice_get old.marks.items i = (λ i apart. ap (λ x. slice_get x i) marks ∙ slice_get_set_other old.marks.items vertex i true apart) in
    let last : IsIn new.todo.items vertex = (length old.todo.items, ap (λ x. slice_get x (length old.todo.items)) todo ∙ last_at old.todo.items [] vertex) in
    let before : (i : ℕ) → IsMarked new.marks.items i → IsMarked old.marks.items i ⊎ (i ≡ vertex) = (λ i is.
    elim (same_or_not i vertex) as (λ _. IsMarked old.marks.items i ⊎ (i ≡ vertex)) [
      | inl same ↦ inr same
      | inr apart ↦ inl (sym (other i apart) ∙ is)
    ]) in
    record {
      same = ap (λ (x : List Bool). length x) marks ∙ length-set old.marks.items vertex true;
      kept = λ i is.
          elim (same_or_not i vertex) as (λ _. IsMarked new.marks.items i) [
            | inl same ↦ subst (IsMarked new.marks.items) (sym same) set
            | inr apart ↦ other i apart ∙ is
          ];
      marked = λ i p lt. subst (IsMarked new.marks.items) (sym p) set;
      only = before;
      stays = λ i is. (is.0, ap (λ x. slice_get x is.0) todo ∙ kept_at old.todo.items (vertex ∷ []) i is.0 is.1);
      noted = λ i is.
          elim (before i is) as (λ _. IsMarked old.marks.items i ⊎ IsIn new.todo.items i) [
            | inl was ↦ inl was
            | inr same ↦ inr (subst (IsIn new.todo.items) (sym same) last)
          ];
      right = λ i is.
          elim (at_push old.todo.items vertex i is.0 (ap (λ x. slice_get x is.0) (sym todo) ∙ is.1)) as (λ _. IsIn old.todo.items i ⊎ IsMarked new.marks.items i) [
            | inl was ↦ inl (is.0, was.1)
            | inr same ↦ inr (subst (IsMarked new.marks.items) (sym same.1) set)
          ];
      fewer =
          (let a = one_fewer old.marks.items vertex at in
          let b = ap (λ (x : List Bool). unmarked x) marks in
          let c = ap (λ (x : List ℕ). length x) todo in
          let d : length (old.todo.items ++ vertex ∷ []) ≡ length old.todo.items + 1 = length-append old.todo.items (vertex ∷ []) in
          omega (arith, a, b, c, d));
    }

-- it is out of the list, or marked already
pub marked_already : (marks : List Bool) (vertex i : ℕ) → (slice_get marks vertex ≡ Some false → ⊥) → i ≡ vertex → i < length marks → IsMarked marks i
marked_already marks vertex i marked same lt =
    let there = within_some marks i lt in
    by there.0 there.1
  where
    by : (b : Bool) → slice_get marks i ≡ Some b → IsMarked marks i
    by true at = at
    by false at = absurd (marked (ap (slice_get marks) (sym same) ∙ at))

-- one after the other
pub marks_on : (P Q R : ℕ → Type 0) (a b c : Marking) → ((i : ℕ) → R i → P i ⊎ Q i) → ((i : ℕ) → P i → R i) → ((i : ℕ) → Q i → R i) → Marks P a b → Marks Q b c → Marks R a c
marks_on P Q R a b c parts first second x y = record {
  same = y.same ∙ x.same;
  kept = λ i is. y.kept i (x.kept i is);
  marked = λ i r lt.
      elim (parts i r) as (λ _. IsMarked c.marks.items i) [
        | inl p ↦ y.kept i (x.marked i p lt)
        | inr q ↦ (let same = x.same in y.marked i q (omega (arith, same, lt)))
      ];
  only = λ i is.
      elim (y.only i is) as (λ _. IsMarked a.marks.items i ⊎ R i) [
        | inl was ↦ elim (x.only i was) as (λ _. IsMarked a.marks.items i ⊎ R i) [ inl before ↦ inl before | inr p ↦ inr (first i p) ]
        | inr q ↦ inr (second i q)
      ];
  stays = λ i is. y.stays i (x.stays i is);
  noted = λ i is.
      elim (y.noted i is) as (λ _. IsMarked a.marks.items i ⊎ IsIn c.todo.items i) [
        | inl was ↦ elim (x.noted i was) as (λ _. IsMarked a.marks.items i ⊎ IsIn c.todo.items i) [ inl before ↦ inl before | inr there ↦ inr (y.stays i there) ]
        | inr there ↦ inr there
      ];
  right = λ i is.
      elim (y.right i is) as (λ _. IsIn a.todo.items i ⊎ IsMarked c.marks.items i) [
        | inl was ↦ elim (x.right i was) as (λ _. IsIn a.todo.items i ⊎ IsMarked c.marks.items i) [ inl before ↦ inl before | inr there ↦ inr (y.kept i there) ]
        | inr there ↦ inr there
      ];
  fewer = (let m = x.fewer in let n = y.fewer in omega (arith, m, n));
}

pub marks_start : (vertices : List ℕ) (a : Marking) → Marks (IsAmong 0 vertices) a a
marks_start vertices a = marks_none (IsAmong 0 vertices) a a refl refl (λ i among lt. (let less = among.1 in absurd (omega (arith, less))))

pub marks_next : (vertices : List ℕ) (n vertex : ℕ) (a b c : Marking) → slice_get vertices n ≡ Some vertex → Marks (IsAmong n vertices) a b → MarksOne vertex b c → Marks (IsAmong (n + 1) vertices) a c
marks_next vertices n vertex a b c at x y =
    marks_on (IsAmong n vertices) (λ i. i ≡ vertex) (IsAmong (n + 1) vertices) a b c (λ i among. among_next vertices n i vertex at among) (among_more vertices n)
    (λ i same. (n, omega arith, at ∙ ap Some (sym same))) x y

pub marks_end : (vertices : List ℕ) (n : ℕ) (a b : Marking) → length vertices ≤ n → Marks (IsAmong n vertices) a b → MarksAll vertices a b
marks_end vertices n a b past x = record {
  same = x.same;
  kept = x.kept;
  marked = λ i is lt. x.marked i (among_all vertices n i past is) lt;
  only = λ i is. elim (x.only i is) as (λ _. IsMarked a.marks.items i ⊎ IsIn vertices i) [ inl was ↦ inl was | inr among ↦ inr (among.0, among.2) ];
  stays = x.stays;
  noted = x.noted;
  right = x.right;
  fewer = x.fewer;
}

-- ---- all marks

-- Marked vertices reach a sink. All sinks are marked, and all sources of marked vertices, but for
-- those that are still to be marked.
pub record IsUnderWay (graph : Graph) (marking : Marking) : Type 0 where
  pub same : length marking.marks.items ≡ length graph
  pub sound : (i : ℕ) → IsMarked marking.marks.items i → ReachesSink graph i
  pub sinks : (i : ℕ) → IsSink graph i → IsMarked marking.marks.items i
  pub todo : (i : ℕ) → IsIn marking.todo.items i → IsMarked marking.marks.items i
  pub rest : (i j : ℕ) → HasEdge graph i j → IsMarked marking.marks.items j → IsMarked marking.marks.items i ⊎ IsIn marking.todo.items j

pub nothing_in : {A : Type 0} (i : ℕ) (x : A) → slice_get [] i ≡ Some x → ⊥
nothing_in zero x at = cc
nothing_in (suc i) x at = cc

-- where the sinks alone are marked
pub under_way_first : (graph : Graph) (sinks : List ℕ) (n : ℕ) (old new : Marking) → n ≡ length graph → AreSinks graph sinks → IsUnmarked n old → MarksAll sinks old new → IsUnderWay graph new
under_way_first graph sinks n old new is are none marks = record {
  same = marks.same ∙ (none.0 ∙ is);
  sound = λ i at.
      elim (marks.only i at) as (λ _. ReachesSink graph i) [
        | inl was ↦ absurd (none.1 i was)
        | inr sink ↦ ([], i, refl, (are i).0 sink)
      ];
  sinks = λ i sink.
      (let lt = slice_get_within graph i sink.0 sink.1 in
      let many = none.0 in
      marks.marked i ((are i).1 sink) (omega (arith, lt, many, is)));
  todo = λ i at.
      elim (marks.right i at) as (λ _. IsMarked new.marks.items i) [
        | inl was ↦ absurd (nothing_in was.0 i (ap (λ x. slice_get x was.0) (sym none.2) ∙ was.1))
        | inr there ↦ there
      ];
  rest = λ i j edge at.
      elim (marks.noted j at) as (λ _. IsMarked new.marks.items i ⊎ IsIn new.todo.items j) [
        | inl was ↦ absurd (none.1 j was)
        | inr there ↦ inr there
      ];
}

-- a vertex that is taken is marked
pub taken_marked : (graph : Graph) (a b : Marking) (vertex : ℕ) → IsUnderWay graph a → Takes a b (Some vertex) → IsMarked a.marks.items vertex
taken_marked graph a b vertex under takes =
    under.todo vertex (length b.todo.items, ap (λ x. slice_get x (length b.todo.items)) takes.0 ∙ last_at b.todo.items [] vertex)

-- the sources of the vertex that is taken are marked
pub under_way_next : (graph sources : Graph) (a b c : Marking) (vertex : ℕ) (from : List ℕ) → AreSources graph sources → IsUnderWay graph a → Takes a b (Some vertex) → ((i : ℕ) → IsIn from i ↔ HasEdge sources vertex i) → MarksAll from b c → IsUnderWay graph c
under_way_next graph sources a b c vertex from are under takes its marks =
    let it = taken_marked graph a b vertex under takes in
    let back : (i : ℕ) → IsMarked b.marks.items i → IsMarked a.marks.items i = (λ i at. subst (λ x. IsMarked x.items i) takes.1 at) in
    let on : (i : ℕ) → IsMarked a.marks.items i → IsMarked c.marks.items i = (λ i at. marks.kept i (subst (λ x. IsMarked x.items i) (sym takes.1) at)) in
    let same_b : length b.marks.items ≡ length graph = ap (λ x. length x.items) takes.1 ∙ under.same in
    let stays : (i : ℕ) → IsIn b.todo.items i → IsIn a.todo.items i = (λ i at. (at.0, ap (λ x. slice_get x at.0) takes.0 ∙ kept_at b.todo.items (vertex ∷ []) i at.0 at.1)) in
    record {
      same = marks.same ∙ same_b;
      sound = λ i at.
          elim (marks.only i at) as (λ _. ReachesSink graph i) [
            | inl was ↦ under.sound i (back i was)
            | inr source ↦
                (let path = under.sound vertex it in
                (vertex ∷ path.0, path.1, (are.only i vertex ((its i).0 source), path.2), path.3))
          ];
      sinks = λ i sink. on i (under.sinks i sink);
      todo = λ i at.
          elim (marks.right i at) as (λ _. IsMarked c.marks.items i) [
            | inl was ↦ on i (under.todo i (stays i was))
            | inr there ↦ there
          ];
      rest = λ i j edge at.
          elim (marks.noted j at) as (λ _. IsMarked c.marks.items i ⊎ IsIn c.todo.items j) [
            | inr there ↦ inr there
            | inl was ↦ elim (under.rest i j edge (back j was)) as (λ _. IsMarked c.marks.items i ⊎ IsIn c.todo.items j) [
              | inl before ↦ inl (on i before)
              | inr there ↦ elim (at_push b.todo.items vertex j there.0 (ap (λ x. slice_get x there.0) (sym takes.0) ∙ there.1)) as (λ _. IsMarked c.marks.items i ⊎ IsIn c.todo.items j) [
                | inl other ↦ inr (marks.stays j (there.0, other.1))
                | inr last ↦
                    (let lt = slice_get_within graph i edge.0 edge.1 in
                    let there_is = slice_get_within a.marks.items vertex true it in
                    let many = under.same in
                    let source : HasEdge sources vertex i = are.each i vertex (omega (arith, there_is, many)) (subst (HasEdge graph i) last.1 edge) in
                    inl (marks.marked i ((its i).1 source) (omega (arith, lt, same_b))))
              ]
            ]
          ];
    }

-- with each vertex taken, less is left to do
pub less_to_do : (a b c : Marking) (vertex : ℕ) (from : List ℕ) → Takes a b (Some vertex) → MarksAll from b c → length c.todo.items + unmarked c.marks.items < length a.todo.items + unmarked a.marks.items
less_to_do a b c vertex from takes marks =
    let m = marks.fewer in
    let t = ap (λ (x : List ℕ). length x) takes.0 in
    let d : length (b.todo.items ++ vertex ∷ []) ≡ length b.todo.items + 1 = length-append b.todo.items (vertex ∷ []) in
    let u = ap (λ x. unmarked x.items) takes.1 in
    omega (arith, m, t, d, u)

-- nothing is left to do
pub all_marked : (graph : Graph) (a b : Marking) → IsUnderWay graph a → Takes a b None → AreMarked graph b.marks.items
all_marked graph a b under takes = record {
  same = ap (λ x. length x.items) takes.1 ∙ under.same;
  each = λ i. (
    (λ at. under.sound i (subst (λ x. IsMarked x.items i) takes.1 at)),
    (λ reaches. subst (λ x. IsMarked x.items i) (sym takes.1) (reached i reaches.0 reaches.1 reaches.2 reaches.3)),
  );
}
  where
    reached : (i : ℕ) (path : List ℕ) (k : ℕ) → PathLeads graph i path k → IsSink graph k → IsMarked a.marks.items i
    reached i [] k path sink = subst (IsMarked a.marks.items) path (under.sinks k sink)
    reached i (j ∷ path) k leads sink =
        elim (under.rest i j leads.0 (reached j path k leads.1 sink)) as (λ _. IsMarked a.marks.items i) [
          | inl there ↦ there
          | inr left ↦ absurd (nothing_in left.0 j (ap (λ x. slice_get x left.0) (sym takes.0) ∙ left.1))
        ]

pub first_without : (graph : Graph) (marks : List Bool) (first : Option ℕ) → AreMarked graph marks → IsFirstUnmarked marks first → IsFirstWithoutSink graph first
first_without graph marks None are first = λ i lt. (are.each i).0 (first i (let same = are.same in omega (arith, same, lt)))
first_without graph marks (Some i) are first = (
  (let lt = slice_get_within marks i false first.0 in let same = are.same in omega (arith, same, lt)),
  (λ reaches.
      (let set = (are.each i).1 reaches in
      let e : false ≡ true = same_Some false true (sym first.0 ∙ set) in
      cc)),
  (λ j lt. (are.each j).0 (first.1 j lt)),
)
