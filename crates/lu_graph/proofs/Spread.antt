-- Marks spread back along edges.
use Rattle.std.proofs.Common.{arith, ◌≡◌, ◌⊎◌, ℕ, zero, suc, ◌+◌, ◌<◌, ◌≤◌, Bool, true, false, cond, List, [], ◌∷◌, length, Option, Some, None, slice_get, get_or, set, refl, sym, ◌∙◌, ap, subst, inl, inr}
use Rattle.std.specs.Prelude.{not, count_by, position}
use Rattle.std.specs.List.{position_or_len}
use Rattle.std.proofs.lemmas.Bool.{cases_lt, le-ltb, lt-ltb}
use Rattle.std.proofs.lemmas.List.{length-set}
use Rattle.std.proofs.lemmas.List.Sums.{fails_before_first, passes_at_first, sum_by-set}
use Rattle.std.proofs.lemmas.Option.{get_or_from_slice_get, same_Some, slice_get-get_or, slice_get_within}
use Rattle.lu_graph.specs.declared.edge.Edge.{Edge}
use Rattle.lu_graph.specs.Discovering.{edge}
use Rattle.lu_graph.specs.Marking.{AreMarkedBack, AreSettled, AreStable, IsMarked, LeadsToMark, MarksFrom, MarksNone, MarksOn}
use Rattle.lu_graph.specs.Nodes.{IsAmong}

-- ---- one mark is set

set_same : (xs : List Bool) (i : ℕ) (x y : Bool) → slice_get xs i ≡ Some x → slice_get (set xs i y) i ≡ Some y
set_same [] i x y h = absurd (cc)
set_same (z ∷ xs) zero x y h = refl
set_same (z ∷ xs) (suc i) x y h = set_same xs i x y h

set_stays : (xs : List Bool) (i j : ℕ) → slice_get xs j ≡ Some true → slice_get (set xs i true) j ≡ Some true
set_stays [] i j h = absurd (cc)
set_stays (z ∷ xs) zero zero h = refl
set_stays (z ∷ xs) zero (suc j) h = h
set_stays (z ∷ xs) (suc i) zero h = h
set_stays (z ∷ xs) (suc i) (suc j) h = set_stays xs i j h

set_back : (xs : List Bool) (i j : ℕ) → slice_get (set xs i true) j ≡ Some true → (j ≡ i) ⊎ (slice_get xs j ≡ Some true)
set_back [] i j h = inr h
set_back (z ∷ xs) zero zero h = inl refl
set_back (z ∷ xs) zero (suc j) h = inr h
set_back (z ∷ xs) (suc i) zero h = inr h
set_back (z ∷ xs) (suc i) (suc j) h =
    elim (set_back xs i j h) as (λ _. (suc j ≡ suc i) ⊎ (slice_get xs j ≡ Some true)) [ inl e ↦ inl (ap (λ (n : ℕ). suc n) e) | inr e ↦ inr e ]

one_fewer : (xs : List Bool) (i : ℕ) → slice_get xs i ≡ Some false → count_by not (set xs i true) + 1 ≡ count_by not xs
one_fewer xs i h =
    let within = slice_get_within xs i false h in
    let was : get_or xs i false ≡ false = get_or_from_slice_get xs i false false h in
    let weight : Bool → ℕ = λ x. cond (not x) 1 0 in
    let one : weight (get_or xs i false) ≡ 1 = ap weight was in
    let sum = sum_by-set weight xs i true false within in
    omega (arith, sum, one)

-- ---- marks that were set so far

pub on_none : (edges : List Edge) (old : List Bool) → MarksOn edges old old
on_none edges old = record { stay = λ i h. h; lead = λ i h. ([], h) }

pub on_more : (edges : List Edge) (old mid new : List Bool) (e : Edge) → IsAmong edges e → MarksOn edges old mid → MarksFrom e mid new → MarksOn edges old new
on_more edges old mid new e among on (is, to, from) = record {
  stay = λ i h. subst (λ (xs : List Bool). IsMarked xs i) (sym is) (set_stays mid e.from i (on.stay i h));
  lead = λ i h. elim (set_back mid e.from i (subst (λ (xs : List Bool). IsMarked xs i) is h)) as (λ _. (way : List ℕ) × LeadsToMark edges old i way) [
    | inl here ↦ (let rest = on.lead e.to to in (e.to ∷ rest.0, (subst (λ (k : ℕ). IsAmong edges (edge k e.to)) (sym here) among, rest.1)))
    | inr before ↦ on.lead i before
  ];
}

leads_to_old : (edges : List Edge) (old mid : List Bool) → MarksOn edges old mid → (way : List ℕ) (i : ℕ) → LeadsToMark edges mid i way → (whole : List ℕ) × LeadsToMark edges old i whole
leads_to_old edges old mid on [] i h = on.lead i h
leads_to_old edges old mid on (j ∷ way) i h = let rest = leads_to_old edges old mid on way j h.1 in (j ∷ rest.0, (h.0, rest.1))

pub on_trans : (edges : List Edge) (old mid new : List Bool) → MarksOn edges old mid → MarksOn edges mid new → MarksOn edges old new
on_trans edges old mid new a b = record {
  stay = λ i h. b.stay i (a.stay i h);
  lead = λ i h. (let x = b.lead i h in leads_to_old edges old mid a x.0 i x.1);
}

marked_by : (edges : List Edge) (old new : List Bool) → MarksOn edges old new → AreStable edges new → (way : List ℕ) (i : ℕ) → LeadsToMark edges old i way → IsMarked new i
marked_by edges old new on stable [] i h = on.stay i h
marked_by edges old new on stable (j ∷ way) i h = stable (edge i j) h.0 (marked_by edges old new on stable way j h.1)

pub marked_back : (edges : List Edge) (old new : List Bool) → MarksOn edges old new → AreStable edges new → AreMarkedBack edges old new
marked_back edges old new on stable i = (on.lead i, λ h. marked_by edges old new on stable h.0 i h.1)

-- ---- one round, the last edges first

pub record MarkedSoFar (edges : List Edge) (old now : List Bool) (behind : ℕ) (is_changed : Bool) : Type 0 where
  pub size : length now ≡ length old
  pub on : MarksOn edges old now
  pub settled : is_changed ≡ false → (now ≡ old) × ((k : ℕ) (e : Edge) → length edges ≤ k + behind → slice_get edges k ≡ Some e → IsMarked now e.to → IsMarked now e.from)
  pub fewer : is_changed ≡ true → count_by not now < count_by not old

pub so_far_none : (edges : List Edge) (old : List Bool) → MarkedSoFar edges old old 0 false
so_far_none edges old = record {
  size = refl;
  on = on_none edges old;
  settled = λ _. (refl, λ k e past at. (let within = slice_get_within edges k e at in absurd (omega (arith, past, within))));
  fewer = λ no. absurd (cc);
}

module _ (edges : List Edge) (old mid new : List Bool) (behind k : ℕ) (is_changed : Bool) (e : Edge) (here : k + behind + 1 ≡ length edges) (at : slice_get edges k ≡ Some e) (before : MarkedSoFar edges old mid behind is_changed) where
  still : (b : Bool) → is_changed ≡ b → count_by not mid ≤ count_by not old
  still true is = (let less = before.fewer is in omega (arith, less))
  still false is = (let same : count_by not mid ≡ count_by not old = ap (count_by not) (before.settled is).0 in omega (arith, same))

  pub so_far_marked : MarksFrom e mid new → MarkedSoFar edges old new (behind + 1) true
  so_far_marked marks = record {
    size = ap (λ (xs : List Bool). length xs) marks.0 ∙ (length-set mid e.from true ∙ before.size);
    on = on_more edges old mid new e (k, at) before.on marks;
    settled = λ no. absurd (cc);
    fewer = λ _.
        (let one = one_fewer mid e.from marks.2 in
        let same : count_by not new ≡ count_by not (set mid e.from true) = ap (count_by not) marks.0 in
        let less = still is_changed refl in
        omega (arith, one, same, less));
  }

  pub so_far_kept : MarksNone e mid new → MarkedSoFar edges old new (behind + 1) is_changed
  so_far_kept marks = record {
    size = ap (λ (xs : List Bool). length xs) marks.0 ∙ before.size;
    on = subst (λ (xs : List Bool). MarksOn edges old xs) (sym marks.0) before.on;
    settled = λ no. (
      marks.0 ∙ (before.settled no).0,
      λ j one past there. subst (λ (xs : List Bool). IsMarked xs one.to → IsMarked xs one.from) (sym marks.0)
          (elim (cases_lt k j) as (λ _. IsMarked mid one.to → IsMarked mid one.from) [
            | inl lt ↦ (before.settled no).1 j one (omega (arith, lt, here)) there
            | inr le ↦
                (let same : k ≡ j = omega (arith, le, past, here) in
                let it : e ≡ one = same_Some e one (sym at ∙ (ap (slice_get edges) same ∙ there)) in
                subst (λ (x : Edge). IsMarked mid x.to → IsMarked mid x.from) it marks.1)
          ]),
    );
    fewer = λ yes. subst (λ (xs : List Bool). count_by not xs < count_by not old) (sym marks.0) (before.fewer yes);
  }

pub settled_all : (edges : List Edge) (old now : List Bool) (behind : ℕ) (is_changed : Bool) → length edges ≤ behind → MarkedSoFar edges old now behind is_changed → is_changed ≡ false → AreSettled edges old now
settled_all edges old now behind is_changed all known same = ((known.settled same).0, λ e among. (known.settled same).1 among.0 e (omega (arith, all)) among.1)

-- ---- the first that is not marked

-- none, where all are marked; else it is not, and all before it are
abbrev pub IsFirstUnmarked : List Bool → Option ℕ → Type 0
IsFirstUnmarked marks None = (i : ℕ) → i < length marks → IsMarked marks i
IsFirstUnmarked marks (Some i) = (slice_get marks i ≡ Some false) × ((k : ℕ) → k < i → IsMarked marks k)

not_true : (b : Bool) → not b ≡ true → b ≡ false
not_true true h = absurd (cc)
not_true false h = refl

not_false : (b : Bool) → not b ≡ false → b ≡ true
not_false true h = refl
not_false false h = absurd (cc)

marked_before : (marks : List Bool) (k : ℕ) → k < length marks → k < position_or_len not marks → IsMarked marks k
marked_before marks k within lt =
    slice_get-get_or marks k false within ∙ ap (λ (b : Bool). Some b) (not_false (get_or marks k false) (fails_before_first not marks k false lt))

by_place : (marks : List Bool) (found : Option ℕ) (b : Bool) → (b ≡ true → position_or_len not marks < length marks) → (b ≡ false → length marks ≤ position_or_len not marks) → found ≡ cond b (Some (position_or_len not marks)) None → IsFirstUnmarked marks found
by_place marks found true within past is =
    let lt = within refl in
    subst (IsFirstUnmarked marks) (sym is) (
      slice_get-get_or marks (position_or_len not marks) false lt ∙ ap (λ (b : Bool). Some b) (not_true (get_or marks (position_or_len not marks) false) (passes_at_first not marks false lt)),
      λ k less. marked_before marks k (omega (arith, less, lt)) less,
    )
by_place marks found false within past is =
    let le = past refl in
    subst (IsFirstUnmarked marks) (sym is) (λ i lt. marked_before marks i lt (omega (arith, le, lt)))

pub first_is : (marks : List Bool) (found : Option ℕ) → found ≡ position not marks → IsFirstUnmarked marks found
first_is marks found is = elim (cases_lt (position_or_len not marks) (length marks)) as (λ _. IsFirstUnmarked marks found) [
  | inl lt ↦ by_place marks found true (λ _. lt) (λ no. absurd (cc)) (is ∙ ap (λ b. cond b (Some (position_or_len not marks)) None) (lt-ltb (position_or_len not marks) (length marks) lt))
  | inr le ↦ by_place marks found false (λ no. absurd (cc)) (λ _. le) (is ∙ ap (λ b. cond b (Some (position_or_len not marks)) None) (le-ltb (position_or_len not marks) (length marks) le))
]
