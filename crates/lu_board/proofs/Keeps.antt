-- Each step keeps the rule.
use Rattle.std.proofs.Common.{◌≡◌, ◌≢◌, ◌⊎◌, ℕ, zero, suc, ◌+◌, ◌-◌, ◌%◌, ◌^◌, ◌<◌, ◌≤◌, min, Bool, true, false, cond, ltb, List, [], ◌∷◌, ◌++◌, set, refl, sym, ap, subst, inl, inr, ⊎_elim, arith, ltb-true, ltb-false, Contains, sum_by}
use Rattle.std.proofs.lemmas.List.Elements.{All-push, All-weaker}
use Rattle.std.specs.Prelude.{slice_index}
use Rattle.std.specs.List.{flat_map}
use mathlib.Core.Option.{some, none, some-ne-none}
use lib.ListN.{get_elem?}
use Rattle.atomic_table.proofs.Lists.{at_set}
use Rattle.atomic_table.specs.Table.{State, Me, Act, Valid, carried_after, step, keeps, stepped, Allows}
use Rattle.lu_board.specs.declared.view.View.{View}
use Rattle.lu_board.specs.declared.view.Kind.{Kind}
use Rattle.lu_board.specs.declared.view.Kind.TheVariants.{Clean, GivenUp}
use Rattle.lu_board.specs.Pieces.{count_of, once_below}
use Rattle.lu_board.specs.Events.{with_held, with_spent, with_seen, with_skipped, with_found, with_settled, after_claim, after_look}
use Rattle.lu_board.specs.Fit.{ViewFits, FitsBoard, FitsWords}
use Rattle.lu_board.specs.Plays.{Claimed, Looked, Lowered, Settled}
use Rattle.lu_board.proofs.Counts.{Has, having, one_at-same, contains-has, has-contains, all-at, all-of, count_of-append, count_of-without_first, count_of-all, count_of-flat_map, once_below-suc, once_below-lt, sum_by-set, sum_by-has, sum_by-le-sum_by}

-- what a change of one view owes
pub record Moves (n next best next' best' : ℕ) (v w : View) : Type 0 where
  pub once : (x : ℕ) → having x w + once_below x (min next n) ≡ having x v + once_below x (min next' n)
  pub lower : best' ≤ best
  pub best_found : (0 < count_of best' w.found) ⊎ ((best' ≡ best) × (count_of best v.found ≤ count_of best w.found))
  pub sound : ViewFits n next best v → ViewFits n next' best' w
  pub claims : (t : ℕ) → next ≤ n + (t + v.spent) → next' ≤ n + (t + w.spent)
  pub spends : v.spent ≤ w.spent
  pub used_up : v.spent < w.spent → n ≤ next'
  pub further : next ≤ next'
  pub weight : w.weight ≡ v.weight

-- the best falls and the next piece rises, as other seats' steps let them
fits-on : (n next best next' best' : ℕ) (v : View) → best' ≤ best → next ≤ next' → ViewFits n next best v → ViewFits n next' best' v
fits-on n next best next' best' v lower further s = record {
  found = All-weaker (λ x. best ≤ x) (λ x. best' ≤ x) (λ x h. omega arith) v.found s.found;
  skipped = All-weaker (λ x. best < x) (λ x. best' < x) (λ x h. omega arith) v.skipped s.skipped;
  spent = s.spent;
  past = let p = s.past in omega arith;
  sees = λ h. ((s.sees h).0, (let r = (s.sees h).1 in omega arith));
  blank = s.blank;
}

-- how often a piece was found
abbrev pub found_times : ℕ → List View → ℕ
found_times x views = sum_by (λ (v : View). count_of x v.found) views

-- the best is n or was found, told by how often it was
pub best-counted : (n best : ℕ) (views : List View) → (best ≡ n) ⊎ Contains (flat_map (λ v. v.found) views) best → (best ≡ n) ⊎ (0 < found_times best views)
best-counted n best views =
    ⊎_elim
    (λ (e : best ≡ n). inl e)
    (λ (h : Contains (flat_map (λ v. v.found) views) best). inr (let c = contains-has (flat_map (λ (v : View). v.found) views) best h in omega (arith, c, count_of-flat_map (λ (v : View). v.found) best views)))

pub best-listed : (n best : ℕ) (views : List View) → (best ≡ n) ⊎ (0 < found_times best views) → (best ≡ n) ⊎ Contains (flat_map (λ v. v.found) views) best
best-listed n best views =
    ⊎_elim
    (λ (e : best ≡ n). inl e)
    (λ (h : 0 < found_times best views). inr (has-contains (flat_map (λ (v : View). v.found) views) best (omega (arith, h, count_of-flat_map (λ (v : View). v.found) best views))))

-- one view changes
pub fits-step : (n workers next best next' best' : ℕ) (views : List View) (id : ℕ) (v w : View)
    → FitsBoard n workers next best views → get_elem? views id ≡ some v → Moves n next best next' best' v w → FitsBoard n workers next' best' (set views id w)
fits-step n workers next best next' best' views id v w f at m = record {
  once = λ x. let s = sum_by-set (having x) views id v w at in let o = f.once x in let d = m.once x in let a = count_of-all x views in let b = count_of-all x (set views id w) in omega arith;
  best_found = best-listed n best' (set views id w) (
      ⊎_elim
      (λ (here : 0 < count_of best' w.found). inr (let h = sum_by-has (λ u. count_of best' u.found) (set views id w) id w (now views id at) in omega arith))
      (λ (same : (best' ≡ best) × (count_of best v.found ≤ count_of best w.found)).
      let s = sum_by-set (λ u. count_of best u.found) views id v w at in
      subst (λ b. (b ≡ n) ⊎ (0 < sum_by (λ u. count_of b u.found) (set views id w))) (sym same.0)
      (⊎_elim (λ (e : best ≡ n). inl e) (λ (some_found : 0 < sum_by (λ u. count_of best u.found) views). inr (omega arith)) (best-counted n best views f.best_found)))
      m.best_found);
  each = all-of (ViewFits n next' best') (set views id w) (λ k u e.
      ⊎_elim
      (λ (t : (k ≡ id) × (w ≡ u)). subst (ViewFits n next' best') t.1 (m.sound (all-at (ViewFits n next best) views id v f.each at)))
      (λ (t : (k ≢ id) × (get_elem? views k ≡ some u)). fits-on n next best next' best' u m.lower m.further (all-at (ViewFits n next best) views k u f.each t.1))
      (at_set views id k w u e));
  claims = let s = sum_by-set (λ u. u.spent) views id v w at in let h = sum_by-has (λ u. u.spent) views id v at in let g = f.claims in
      let c = m.claims (sum_by (λ u. u.spent) views - v.spent) (omega arith) in omega arith;
  used_up = λ h. used (ltb v.spent w.spent) refl h;
  weights = let s = sum_by-set (λ u. u.weight) views id v w at in let e = m.weight in let g = f.weights in omega arith;
}
  where
    now : (l : List View) (i : ℕ) → get_elem? l i ≡ some v → get_elem? (set l i w) i ≡ some w
    now [] i e = absurd (some-ne-none v (sym e))
    now (x ∷ xs) zero e = refl
    now (x ∷ xs) (suc i) e = now xs i e

    used : (b : Bool) → ltb v.spent w.spent ≡ b → 0 < sum_by (λ u. u.spent) (set views id w) → n ≤ next'
    used true e h = m.used_up (ltb-true v.spent w.spent e)
    used false e h = let s = sum_by-set (λ u. u.spent) views id v w at in let le = ltb-false v.spent w.spent e in let sp = m.spends in let g = f.used_up (omega arith) in let fu = m.further in omega arith

-- a piece is claimed
hold-moves : (n next best : ℕ) (v : View) → v.weight ≡ 1 → next < n → Moves n next best (next + 1) best v (with_held next v)
hold-moves n next best v one below = record {
  once = λ x. let l = count_of-append x v.held (next ∷ []) in let c = once_below-suc x next in let a : min next n ≡ next = omega arith in let b : min (next + 1) n ≡ next + 1 = omega arith in
      let a' = ap (once_below x) a in let b' = ap (once_below x) b in omega arith;
  lower = omega arith;
  best_found = inr (refl, omega arith);
  sound = λ s. record { found = s.found; skipped = s.skipped; spent = s.spent; past = let p = s.past in omega arith; sees = s.sees; blank = λ e. let e' : v.weight ≡ 0 = e in absurd (omega arith) };
  claims = λ t h. omega arith;
  spends = omega arith;
  used_up = λ h. absurd (omega arith);
  further = omega arith;
  weight = refl;
}

-- no piece is left
spend-moves : (n next best : ℕ) (v : View) → v.weight ≡ 1 → v.spent ≡ 0 → n ≤ next → Moves n next best (next + 1) best v (with_spent v)
spend-moves n next best v one unspent above = record {
  once = λ x. let a : min next n ≡ n = omega arith in let b : min (next + 1) n ≡ n = omega arith in
      let a' = ap (once_below x) a in let b' = ap (once_below x) b in omega arith;
  lower = omega arith;
  best_found = inr (refl, omega arith);
  sound = λ s. record { found = s.found; skipped = s.skipped; spent = omega arith; past = let p = s.past in omega arith; sees = s.sees; blank = λ e. let e' : v.weight ≡ 0 = e in absurd (omega arith) };
  claims = λ t h. omega arith;
  spends = omega arith;
  used_up = λ h. omega arith;
  further = omega arith;
  weight = refl;
}

-- a claim, of a seat that is not spent
pub claim-moves : (n next best : ℕ) (v : View) → v.weight ≡ 1 → v.spent ≡ 0 → Moves n next best (next + 1) best v (after_claim n next v)
claim-moves n next best v one unspent = at (ltb next n) refl
  where
    at : (b : Bool) → ltb next n ≡ b → Moves n next best (next + 1) best v (cond b (with_held next v) (with_spent v))
    at true e = hold-moves n next best v one (ltb-true next n e)
    at false e = spend-moves n next best v one unspent (ltb-false next n e)

-- the best is seen, and the piece goes on
see-moves : (n next best : ℕ) (v : View) → v.weight ≡ 1 → Moves n next best next best v (with_seen best v)
see-moves n next best v one = record {
  once = λ x. omega arith;
  lower = omega arith;
  best_found = inr (refl, omega arith);
  sound = λ s. record { found = s.found; skipped = s.skipped; spent = s.spent; past = let p = s.past in omega arith; sees = λ h. ((s.sees h).0, omega arith); blank = λ e. let e' : v.weight ≡ 0 = e in absurd (omega arith) };
  claims = λ t h. omega arith;
  spends = omega arith;
  used_up = λ h. absurd (omega arith);
  further = omega arith;
  weight = refl;
}

-- the best is below the piece, which is skipped
skip-moves : (n next best i : ℕ) (v : View) → v.weight ≡ 1 → Has v.held i → best < i → Moves n next best next best v (with_skipped i best v)
skip-moves n next best i v one held below = record {
  once = λ x. let t = count_of-without_first i x v.held held in let l = count_of-append x v.skipped (i ∷ []) in omega arith;
  lower = omega arith;
  best_found = inr (refl, omega arith);
  sound = λ s. record {
    found = s.found;
    skipped = All-push (λ y. best < y) v.skipped i s.skipped below;
    spent = s.spent;
    past = s.past;
    sees = λ h. ((s.sees h).0, omega arith);
    blank = λ e. let e' : v.weight ≡ 0 = e in absurd (omega arith);
  };
  claims = λ t h. omega arith;
  spends = omega arith;
  used_up = λ h. absurd (omega arith);
  further = omega arith;
  weight = refl;
}

-- a look
pub look-moves : (n next best i : ℕ) (v : View) → v.weight ≡ 1 → Has v.held i → Moves n next best next best v (after_look i best v)
look-moves n next best i v one held = at (ltb best i) refl
  where
    at : (b : Bool) → ltb best i ≡ b → Moves n next best next best v (cond b (with_skipped i best v) (with_seen best v))
    at true e = skip-moves n next best i v one held (ltb-true best i e)
    at false e = see-moves n next best v one

-- the piece is found bad
pub find-moves : (n next best i : ℕ) (v : View) → v.weight ≡ 1 → Has v.held i → Moves n next best next (min best i) v (with_found i (min best i) v)
find-moves n next best i v one held = record {
  once = λ x. let t = count_of-without_first i x v.held held in let l = count_of-append x v.found (i ∷ []) in omega arith;
  lower = omega arith;
  best_found = at (ltb best i) refl;
  sound = λ s. record {
    found = All-push (λ y. min best i ≤ y) v.found i (All-weaker (λ y. best ≤ y) (λ y. min best i ≤ y) (λ y h. omega arith) v.found s.found) (omega arith);
    skipped = All-weaker (λ y. best < y) (λ y. min best i < y) (λ y h. omega arith) v.skipped s.skipped;
    spent = s.spent;
    past = s.past;
    sees = λ h. ((s.sees h).0, omega arith);
    blank = λ e. let e' : v.weight ≡ 0 = e in absurd (omega arith);
  };
  claims = λ t h. omega arith;
  spends = omega arith;
  used_up = λ h. absurd (omega arith);
  further = omega arith;
  weight = refl;
}
  where
    at : (b : Bool) → ltb best i ≡ b → (0 < count_of (min best i) (v.found ++ i ∷ [])) ⊎ ((min best i ≡ best) × (count_of best v.found ≤ count_of best (v.found ++ i ∷ [])))
    at true e = let below = ltb-true best i e in let l = count_of-append best v.found (i ∷ []) in inr (omega arith, omega arith)
    at false e = let above = ltb-false best i e in let is : min best i ≡ i = omega arith in
        inl (subst (λ k. 0 < count_of k (v.found ++ i ∷ [])) (sym is) (let s = one_at-same i in let l = count_of-append i v.found (i ∷ []) in omega arith))

-- the piece is settled
pub settle-moves : (n next best i : ℕ) (kind : Kind) (v : View) → v.weight ≡ 1 → Has v.held i → Moves n next best next best v (with_settled i kind v)
settle-moves n next best i Clean v one held = record {
  once = λ x. let t = count_of-without_first i x v.held held in let l = count_of-append x v.clean (i ∷ []) in omega arith;
  lower = omega arith;
  best_found = inr (refl, omega arith);
  sound = λ s. record { found = s.found; skipped = s.skipped; spent = s.spent; past = let p = s.past in omega arith; sees = s.sees; blank = λ e. let e' : v.weight ≡ 0 = e in absurd (omega arith) };
  claims = λ t h. omega arith;
  spends = omega arith;
  used_up = λ h. absurd (omega arith);
  further = omega arith;
  weight = refl;
}
settle-moves n next best i GivenUp v one held = record {
  once = λ x. let t = count_of-without_first i x v.held held in let l = count_of-append x v.given (i ∷ []) in omega arith;
  lower = omega arith;
  best_found = inr (refl, omega arith);
  sound = λ s. record { found = s.found; skipped = s.skipped; spent = s.spent; past = let p = s.past in omega arith; sees = s.sees; blank = λ e. let e' : v.weight ≡ 0 = e in absurd (omega arith) };
  claims = λ t h. omega arith;
  spends = omega arith;
  used_up = λ h. absurd (omega arith);
  further = omega arith;
  weight = refl;
}

-- no more seats are spent than there are workers
pub spent-few : (n workers next best : ℕ) (views : List View) → FitsBoard n workers next best views → sum_by (λ u. u.spent) views ≤ workers
spent-few n workers next best views f = let le = sum_by-le-sum_by (λ u. u.spent) (λ u. u.weight) views (λ k u e. (all-at (ViewFits n next best) views k u f.each e).spent) in let w = f.weights in omega arith

-- the best is a piece, or n
pub best-small : (n workers next best : ℕ) (views : List View) → FitsBoard n workers next best views → best ≤ n
best-small n workers next best views f =
    ⊎_elim
    (λ (e : best ≡ n). omega arith)
    (λ (h : 0 < found_times best views).
    let le = sum_by-le-sum_by (λ v. count_of best v.found) (having best) views (λ k u e. omega arith) in
    let o = f.once best in
    let a = count_of-all best views in
    let below = once_below-lt best (min next n) (omega arith) in omega arith)
    (best-counted n best views f.best_found)

module _ (n workers : ℕ) where
  abbrev pub Rule : State (Unit {0}) View → Type 0
  Rule s = FitsWords n workers s.words s.views

  -- one word is changed, and the view of the seat id
  stepped-rule : (s : State (Unit {0}) View) (k : Rule s) (word id x next' best' : ℕ) (v w : View) → set s.words word x ≡ next' ∷ best' ∷ n ∷ workers ∷ []
      → get_elem? s.views id ≡ some v → Moves n k.next k.best next' best' v w → FitsWords n workers (set s.words word x) (set s.views id w)
  stepped-rule s k word id x next' best' v w words at m = record {
    next = next';
    best = best';
    words_are = words;
    small = k.small;
    fits = fits-step n workers k.next k.best next' best' s.views id v w k.fits at m;
  }

  pub claims : (slots id : ℕ) (me : Me (Unit {0}) View) → me.0.spent ≡ 0 → me.0.weight ≡ 1 → Allows Rule slots id me 0 (λ x. (x + 1) % 2 ^ 64) (Claimed n (step slots 0 1 0 none) me)
  claims slots id me unspent one s k _ at _ =
      let here : slice_index s.words 0 ≡ k.next = ap (λ ws. slice_index ws 0) k.words_are in
      let v = me.0 in
      let fit = all-at (ViewFits n k.next k.best) s.views id v k.fits.each at in
      let named = fit.sees (omega arith) in
      let below = k.fits.claims in
      let few = spent-few n workers k.next k.best s.views k.fits in
      let small = k.small in
      let x : ℕ = (slice_index s.words 0 + 1) % 18446744073709551616 in
      let after : x ≡ k.next + 1 = omega arith in
      let words : set s.words 0 x ≡ (k.next + 1) ∷ k.best ∷ n ∷ workers ∷ [] = (λ j. set (k.words_are j) 0 (after j)) in
      let w = after_claim n k.next v in
      let P : ℕ → Type 0 = λ found. (w : View) × (a : Act (Unit {0})) × Valid s.homes me.1 a × Rule (stepped s 0 x id me.1 w a) × Claimed n (step slots 0 1 0 none) me found (w, carried_after me.1 a) in
      subst P (sym here) (w, keeps, tt, stepped-rule s k 0 id x (k.next + 1) k.best v w words at (claim-moves n k.next k.best v one unspent), (refl, named.0, (λ _. fit.past), refl))

  pub looks : (slots id i : ℕ) (me : Me (Unit {0}) View) → Has me.0.held i → me.0.weight ≡ 1 → Allows Rule slots id me 1 (λ x. x) (Looked i (step slots 1 0 0 none) me)
  looks slots id i me held one s k _ at _ =
      let here : slice_index s.words 1 ≡ k.best = ap (λ ws. slice_index ws 1) k.words_are in
      let v = me.0 in
      let named = (all-at (ViewFits n k.next k.best) s.views id v k.fits.each at).sees (omega arith) in
      let top = best-small n workers k.next k.best s.views k.fits in
      let small : k.best ≤ v.pieces = (let e = named.0 in omega arith) in
      let x : ℕ = slice_index s.words 1 in
      let words : set s.words 1 x ≡ k.next ∷ k.best ∷ n ∷ workers ∷ [] = (λ j. set (k.words_are j) 1 (here j)) in
      let w = after_look i k.best v in
      let P : ℕ → Type 0 = λ found. (w : View) × (a : Act (Unit {0})) × Valid s.homes me.1 a × Rule (stepped s 1 x id me.1 w a) × Looked i (step slots 1 0 0 none) me found (w, carried_after me.1 a) in
      subst P (sym here) (w, keeps, tt, stepped-rule s k 1 id x k.next k.best v w words at (look-moves n k.next k.best i v one held), (refl, named.1, small, refl))

  pub lowers : (slots id i : ℕ) (me : Me (Unit {0}) View) → Has me.0.held i → me.0.weight ≡ 1 → Allows Rule slots id me 1 (λ x. min x i) (Lowered (step slots 1 i 0 none) me)
  lowers slots id i me held one s k _ at _ =
      let here : slice_index s.words 1 ≡ k.best = ap (λ ws. slice_index ws 1) k.words_are in
      let v = me.0 in
      let named = (all-at (ViewFits n k.next k.best) s.views id v k.fits.each at).sees (omega arith) in
      let x : ℕ = min (slice_index s.words 1) i in
      let after : x ≡ min k.best i = ap (λ b. min b i) here in
      let words : set s.words 1 x ≡ k.next ∷ min k.best i ∷ n ∷ workers ∷ [] = (λ j. set (k.words_are j) 1 (after j)) in
      let P : ℕ → Type 0 = λ found. (w : View) × (a : Act (Unit {0})) × Valid s.homes me.1 a × Rule (stepped s 1 x id me.1 w a) × Lowered (step slots 1 i 0 none) me found (w, carried_after me.1 a) in
      subst P (sym here) (
        with_found i (min k.best i) v,
        keeps,
        tt,
        stepped-rule s k 1 id x k.next (min k.best i) v (with_found i (min k.best i) v) words at (find-moves n k.next k.best i v one held),
        (refl, named.1, refl),
      )

  pub settles : (slots id i : ℕ) (kind : Kind) (me : Me (Unit {0}) View) → Has me.0.held i → me.0.weight ≡ 1 → Allows Rule slots id me 1 (λ x. x) (Settled i kind (step slots 1 0 0 none) me)
  settles slots id i kind me held one s k _ at _ =
      let here : slice_index s.words 1 ≡ k.best = ap (λ ws. slice_index ws 1) k.words_are in
      let v = me.0 in
      let x : ℕ = slice_index s.words 1 in
      let words : set s.words 1 x ≡ k.next ∷ k.best ∷ n ∷ workers ∷ [] = (λ j. set (k.words_are j) 1 (here j)) in
      (with_settled i kind v, keeps, tt, stepped-rule s k 1 id x k.next k.best v (with_settled i kind v) words at (settle-moves n k.next k.best i kind v one held), (refl, refl))
