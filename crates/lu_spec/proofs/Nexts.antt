-- One more line of a specification.
use Rattle.std.proofs.Common.{◌≡◌, ◌≢◌, ℕ, true, false, ◌⊎◌, List, [], ◌∷◌, ◌++◌, length, get_or, Option, Some, None, Bool, refl, sym, ap, subst, ◌∙◌, inl, inr, arith}
use Rattle.std.specs.Prelude.{is_some}
use Rattle.lu_history.specs.declared.serial.SerialOp.{SerialOp}
use Rattle.lu_history.specs.declared.serial.SerialOutcome.{SerialOutcome}
use Rattle.lu_test.specs.Matrix.{Matrix, calls_of}
use Rattle.lu_trie.specs.Conflicts.{ConflictAt, HasConflict, IsDeterministic}
use Rattle.lu_trie.proofs.Determinism.{conflict_back, no_self_conflict}
use Rattle.lu_spec.specs.Beginnings.{Has, Begins, IsClosureOf, AddsBeginnings}
use Rattle.lu_spec.specs.Specs.{IsSpec, FitsMatrix, FitsIn}
use Rattle.lu_spec.specs.SpecText.{AreListed, ComesAfter, MayFollow, HasConflictIn, IsHistoryLine, IsListable, history_line}
use Rattle.lu_spec.specs.Reading.{IsGatheredDraft, IsListedDraft, IsNextOf, IsNextDraft}
use Rattle.lu_spec.proofs.Sets.{begins_self, has_either, has_right, has_left, has_first, has_cons}
use Rattle.lu_spec.proofs.Closures.{conflict_on, none_right, is_spec}
use Rattle.lu_spec.proofs.HistoryLines.{line_same}

-- listed histories are gathered in order
pub gathering : (matrix : Matrix) (listed set : List (List SerialOp)) (last : List SerialOp) → IsListedDraft matrix listed set last → IsGatheredDraft matrix listed set last
gathering matrix listed set last draft = record {
  are = record { each = draft.are.each; deterministic = draft.are.deterministic };
  closure = draft.closure;
  ends = draft.ends;
}

-- ---- the last history

no_push : {X : Type 0} (xs : List X) (x : X) → [] ≡ xs ++ x ∷ [] → ⊥
no_push [] x e = cc
no_push (y ∷ xs) x e = cc

last_same : {X : Type 0} (xs ys : List X) (x y : X) → xs ++ x ∷ [] ≡ ys ++ y ∷ [] → x ≡ y
last_same [] [] x y e = cc
last_same [] (b ∷ ys) x y e = absurd (no_push ys y (let f : [] ≡ ys ++ y ∷ [] = cc in f))
last_same (a ∷ xs) [] x y e = absurd (no_push xs x (let f : [] ≡ xs ++ x ∷ [] = cc in f))
last_same (a ∷ xs) (b ∷ ys) x y e = last_same xs ys x y (let f : xs ++ x ∷ [] ≡ ys ++ y ∷ [] = cc in f)

pub follows : (matrix : Matrix) (listed set : List (List SerialOp)) (last q : List SerialOp) → IsGatheredDraft matrix listed set last → (last ≢ [] → ComesAfter last q) → MayFollow listed q
follows matrix listed set last q draft after before p is = by_end draft.ends
  where
    by_end : ((listed ≡ []) × (last ≡ [])) ⊎ ((front : List (List SerialOp)) × (listed ≡ front ++ last ∷ [])) → ComesAfter p q
    by_end (inl (none, empty)) = absurd (no_push before p (sym none ∙ is))
    by_end (inr (front, e)) =
        let same : last ≡ p = last_same front before last p (sym e ∙ is) in
        let member : Has listed last = subst (λ (x : List (List SerialOp)). Has x last) (sym e) (has_right front (last ∷ []) last (has_first last [])) in
        let some = (draft.are.each last member).0.some in
        subst (λ (x : List SerialOp). ComesAfter x q) same (after (λ empty. absurd (omega (arith, some, ap length empty))))

pub must_follow : (matrix : Matrix) (listed set : List (List SerialOp)) (last q : List SerialOp) → IsGatheredDraft matrix listed set last → MayFollow listed q → last ≢ [] → ComesAfter last q
must_follow matrix listed set last q draft goes some = by_end draft.ends
  where
    by_end : ((listed ≡ []) × (last ≡ [])) ⊎ ((front : List (List SerialOp)) × (listed ≡ front ++ last ∷ [])) → ComesAfter last q
    by_end (inl (none, empty)) = absurd (some empty)
    by_end (inr (front, e)) = goes front last e

-- a line whose history does not follow is that of none that does
pub none_follows : (matrix : Matrix) (listed set : List (List SerialOp)) (last q : List SerialOp) (line : List ℕ) → IsGatheredDraft matrix listed set last → IsListable q → line ≡ history_line q → ((last ≢ [] → ComesAfter last q) → ⊥) → (p : List SerialOp) → IsHistoryLine listed line p → ⊥
none_follows matrix listed set last q line draft listable is fails p other =
    let same : p ≡ q = line_same p q other.1 listable (sym other.0 ∙ is) in
    fails (λ some. must_follow matrix listed set last q draft (subst (MayFollow listed) same other.2) some)

-- ---- the calls that are left

pub fits_from : (matrix : Matrix) (left : List ℕ) (q : List SerialOp) → ((t : ℕ) → get_or left t 0 ≡ length (calls_of matrix t)) → FitsIn left q → FitsMatrix matrix q
fits_from matrix left q are fits t = omega (arith, are t, fits t)

pub fits_to : (matrix : Matrix) (left : List ℕ) (q : List SerialOp) → ((t : ℕ) → get_or left t 0 ≡ length (calls_of matrix t)) → FitsMatrix matrix q → FitsIn left q
fits_to matrix left q are fits t = omega (arith, are t, fits t)

-- ---- conflicts

pub draft_spec : (matrix : Matrix) (listed set : List (List SerialOp)) (last : List SerialOp) → IsGatheredDraft matrix listed set last → IsSpec set
draft_spec matrix listed set last draft =
    is_spec listed set draft.closure draft.are.deterministic (λ q has. (draft.are.each q has).0.serial) (λ q has k d within. ((draft.are.each q has).0.entries k d within).1)

pub conflict_listed : (listed set : List (List SerialOp)) (q : List SerialOp) (i : ℕ) (o : SerialOutcome) → IsClosureOf listed set → HasConflict set q i o → HasConflictIn listed q
conflict_listed listed set q i o closure conflict = by_part ((closure conflict.0).0 conflict.1)
  where
    by_part : (conflict.0 ≡ []) ⊎ ((h : List SerialOp) × Begins conflict.0 h × Has listed h) → HasConflictIn listed q
    by_part (inl empty) = absurd (none_right q i o (subst (λ (x : List SerialOp). ConflictAt q x i o) empty conflict.2))
    by_part (inr (h, begins, has)) = (h, has, i, o, conflict_on q conflict.0 q h i o (begins_self q) begins conflict.2)

pub listed_conflict : (listed set : List (List SerialOp)) (q : List SerialOp) → IsClosureOf listed set → ((i : ℕ) (o : SerialOutcome) → HasConflict set q i o → ⊥) → HasConflictIn listed q → ⊥
listed_conflict listed set q closure none (p, has, i, o, conflict) = none i o (p, (closure p).1 (inr (p, begins_self p, has)), conflict)

-- ---- with one more

split_push : {X : Type 0} (xs before after : List X) (q x : X) → xs ++ q ∷ [] ≡ before ++ x ∷ after → ((before ≡ xs) × (x ≡ q)) ⊎ ((rest : List X) × (xs ≡ before ++ x ∷ rest))
split_push [] [] after q x e = inl (refl, cc)
split_push {X} [] (b ∷ before) after q x e = absurd (no_middle before (let f : [] ≡ before ++ x ∷ after = cc in f))
  where
    no_middle : (ys : List X) → [] ≡ ys ++ x ∷ after → ⊥
    no_middle [] f = cc
    no_middle (y ∷ ys) f = cc
split_push (y ∷ xs) [] after q x e = inr (xs, ap (λ z. z ∷ xs) (let f : y ≡ x = cc in f))
split_push (y ∷ xs) (b ∷ before) after q x e =
    let head : y ≡ b = cc in
    elim (split_push xs before after q x (let f : xs ++ q ∷ [] ≡ before ++ x ∷ after = cc in f)) [
      | inl (all, last) ↦ inl (rw (head, all) refl, last)
      | inr (rest, is) ↦ inr (rest, rw (head, is) refl)
    ]

module _ (listed : List (List SerialOp)) (q : List SerialOp) where
  pub either : (x : List SerialOp) → Has (listed ++ q ∷ []) x → Has listed x ⊎ (x ≡ q)
  either x has = elim (has_either listed (q ∷ []) x has) [
    | inl was ↦ inl was
    | inr here ↦ elim (has_cons q [] x here) [ inl is ↦ inr is | inr none ↦ absurd cc ]
  ]

  pub deterministic_more : IsDeterministic listed → (HasConflictIn listed q → ⊥) → IsDeterministic (listed ++ q ∷ [])
  deterministic_more were apart a b i o x y conflict = by_parts (either a x) (either b y)
    where
      by_parts : Has listed a ⊎ (a ≡ q) → Has listed b ⊎ (b ≡ q) → ⊥
      by_parts (inl was) (inl also) = were a b i o was also conflict
      by_parts (inl was) (inr is) =
          let back = conflict_back a b i o conflict in
          apart (a, was, i, back.0, subst (λ (z : List SerialOp). ConflictAt z a i back.0) is back.1)
      by_parts (inr is) (inl also) = apart (b, also, i, o, subst (λ (z : List SerialOp). ConflictAt z b i o) is conflict)
      by_parts (inr is) (inr same) = no_self_conflict q i o (subst (λ (z : List SerialOp). ConflictAt z q i o) is (subst (λ (z : List SerialOp). ConflictAt a z i o) same conflict))

  pub closure_more : (set new : List (List SerialOp)) → IsClosureOf listed set → AddsBeginnings set new q → IsClosureOf (listed ++ q ∷ []) new
  closure_more set new closure adds x = (λ has. forth ((adds x).0 has), λ part. (adds x).1 (back part))
    where
      forth : Has set x ⊎ Begins x q → (x ≡ []) ⊎ ((h : List SerialOp) × Begins x h × Has (listed ++ q ∷ []) h)
      forth (inl was) = elim ((closure x).0 was) [
        | inl empty ↦ inl empty
        | inr (h, begins, has) ↦ inr (h, begins, has_left listed (q ∷ []) h has)
      ]
      forth (inr begins) = inr (q, begins, has_right listed (q ∷ []) q (has_first q []))

      back : (x ≡ []) ⊎ ((h : List SerialOp) × Begins x h × Has (listed ++ q ∷ []) h) → Has set x ⊎ Begins x q
      back (inl empty) = inl ((closure x).1 (inl empty))
      back (inr (h, begins, has)) = elim (either h has) [
        | inl was ↦ inl ((closure x).1 (inr (h, begins, was)))
        | inr is ↦ inr (subst (Begins x) is begins)
      ]

module _ (matrix : Matrix) (listed : List (List SerialOp)) (are : AreListed matrix listed) (line : List ℕ) (q : List SerialOp) (next : IsNextOf matrix listed line q) where
  order : (before : List (List SerialOp)) (x : List SerialOp) (after : List (List SerialOp)) → listed ++ q ∷ [] ≡ before ++ x ∷ after → MayFollow before x
  order before x after is = elim (split_push listed before after q x is) [
    | inl (all, here) ↦ subst (λ (z : List SerialOp). MayFollow before z) (sym here) (subst (λ (z : List (List SerialOp)). MayFollow z q) (sym all) next.is.2)
    | inr (rest, was) ↦ are.order before x rest was
  ]

  pub listed_more : AreListed matrix (listed ++ q ∷ [])
  listed_more = record {
    each = λ x has. elim (either listed q x has) [
      | inl was ↦ are.each x was
      | inr is ↦ subst (λ (z : List SerialOp). IsListable z × FitsMatrix matrix z) (sym is) (next.is.1, next.fits)
    ];
    order = order;
    deterministic = deterministic_more listed q are.deterministic next.apart;
  }

pub next_draft : (matrix : Matrix) (listed set : List (List SerialOp)) (last : List SerialOp) → IsListedDraft matrix listed set last → (line : List ℕ) (q : List SerialOp) → IsNextOf matrix listed line q
    → (new : List (List SerialOp)) → AddsBeginnings set new q → IsNextDraft matrix listed line new q
next_draft matrix listed set last draft line q next new adds =
    (next.is.0, record { are = listed_more matrix listed draft.are line q next; closure = closure_more listed q set new draft.closure adds; ends = inr (listed, refl) })

-- with one more, in order or not
pub gathered_more : (matrix : Matrix) (gathered set : List (List SerialOp)) (last : List SerialOp) → IsGatheredDraft matrix gathered set last → (q : List SerialOp) → IsListable q → FitsMatrix matrix q → (HasConflictIn gathered q → ⊥)
    → (new : List (List SerialOp)) → AddsBeginnings set new q → IsGatheredDraft matrix (gathered ++ q ∷ []) new q
gathered_more matrix gathered set last draft q listable fits apart new adds = record {
  are = record {
    each = λ x has. elim (either gathered q x has) [
      | inl was ↦ draft.are.each x was
      | inr is ↦ subst (λ (z : List SerialOp). IsListable z × FitsMatrix matrix z) (sym is) (listable, fits)
    ];
    deterministic = deterministic_more gathered q draft.are.deterministic apart;
  };
  closure = closure_more gathered q set new draft.closure adds;
  ends = inr (gathered, refl);
}

-- ---- the answer of a conflict

pub is_there : {A : Type 0} (o : Option A) (b : Bool) → b ≡ is_some o → b ≡ true → (x : A) × (o ≡ Some x)
is_there None b e t = absurd cc
is_there (Some x) b e t = (x, refl)

pub is_not_there : {A : Type 0} (o : Option A) (b : Bool) → b ≡ is_some o → b ≡ false → (x : A) → o ≡ Some x → ⊥
is_not_there None b e f x is = cc
is_not_there (Some y) b e f x is = cc

-- ---- no history

-- the closure of no histories is what the empty one is added to
pub of_nothing : (old set : List (List SerialOp)) (h : List SerialOp) → old ≡ [] → h ≡ [] → AddsBeginnings old set h → IsClosureOf [] set
of_nothing old set h none empty adds q = (λ has. forth ((added q).0 has), λ part. (added q).1 (back part))
  where
    added : AddsBeginnings [] set []
    added = subst (λ (x : List SerialOp). AddsBeginnings [] set x) empty (subst (λ (x : List (List SerialOp)). AddsBeginnings x set h) none adds)

    only_empty : (x rest : List SerialOp) → [] ≡ x ++ rest → x ≡ []
    only_empty [] rest e = refl
    only_empty (op ∷ x) rest e = absurd cc

    forth : Has [] q ⊎ Begins q [] → (q ≡ []) ⊎ ((g : List SerialOp) × Begins q g × Has [] g)
    forth (inl was) = absurd cc
    forth (inr begins) = inl (only_empty q begins.0 begins.1)

    back : (q ≡ []) ⊎ ((g : List SerialOp) × Begins q g × Has [] g) → Has [] q ⊎ Begins q []
    back (inl is) = inr (subst (λ (x : List SerialOp). Begins x []) (sym is) ([], refl))
    back (inr (g, begins, has)) = absurd cc

-- none are listed
pub no_histories : (matrix : Matrix) → AreListed matrix []
no_histories matrix = record {
  each = λ q has. absurd cc;
  order = λ before q after is. absurd (no_middle before q after is);
  deterministic = λ a b i o has also conflict. let none_there = has in absurd cc;
}
  where
    no_middle : (before : List (List SerialOp)) (q : List SerialOp) (after : List (List SerialOp)) → [] ≡ before ++ q ∷ after → ⊥
    no_middle [] q after e = cc
    no_middle (x ∷ before) q after e = cc

pub none_listed : (matrix : Matrix) (old set : List (List SerialOp)) (h last : List SerialOp) → old ≡ [] → h ≡ [] → last ≡ [] → AddsBeginnings old set h → IsListedDraft matrix [] set last
none_listed matrix old set h last none empty at_start adds = record {
  are = no_histories matrix;
  closure = of_nothing old set h none empty adds;
  ends = inl (refl, at_start);
}
