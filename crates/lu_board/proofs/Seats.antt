-- Seats are cut and gathered, and what holds once all are gathered.
use Rattle.std.proofs.Common.{◌≡◌, ◌≢◌, ◌⊎◌, ℕ, zero, suc, ◌+◌, ◌-◌, ◌<◌, ◌≤◌, min, Bool, true, false, List, [], ◌∷◌, ◌++◌, set, refl, sym, ap, ◌∙◌, subst, inl, inr, ⊎_elim, arith, true≢false, length, length-append, sum_by, All, Contains}
use Rattle.std.proofs.lemmas.List.{append-nil, append_assoc}
use Rattle.std.proofs.lemmas.List.Elements.{All-nil, All-append, All-weaker}
use Rattle.std.proofs.lemmas.List.Sums.{sum_by-append}
use Rattle.std.proofs.lemmas.Grind.{flat_map-append}
use Rattle.std.specs.Prelude.{slice_index, slice_index_or, Some, None, ◌||◌}
use Rattle.std.specs.List.{flat_map}
use mathlib.Core.Option.{some, some-ne-none, some-injective}
use lib.ListN.{get_elem?}
use Rattle.atomic_table.proofs.Lists.{at_set, at_snoc, set_else}
use Rattle.atomic_table.specs.Table.{Splits, Joins}
use Rattle.lu_board.specs.declared.view.View.{View}
use Rattle.lu_board.specs.Pieces.{count_of, once_below, HasEachOnce, IsLeastPiece, AllAbove}
use Rattle.lu_board.specs.Views.{newcomer, blank, without_newcomer, merged}
use Rattle.lu_board.specs.Fit.{ViewFits, FitsBoard, FitsWords}
use Rattle.lu_board.specs.Seats.{Seat, TellsGiven, IsDone, gathered}
use Rattle.lu_board.specs.Close.{found_by, skipped_by, given_by, SharesOut}
use Rattle.lu_board.proofs.Counts.{Has, having, one_at-same, all-at, all-of, has-contains, count_of-append, count_of-empty, count_of-all, once_below-lt, once_below-zero, sum_by-set, sum_by-two, sum_by-none}
use Rattle.lu_board.proofs.Keeps.{Rule, best-small, found_times, best-counted, best-listed}

-- the first view
pub begins : (n workers : ℕ) → n ≤ 65536 → workers ≤ 16 → 0 < workers → FitsWords n workers (0 ∷ n ∷ n ∷ workers ∷ []) (newcomer n workers ∷ [])
begins n workers few fewer some_workers = record {
  next = 0;
  best = n;
  words_are = refl;
  small = (few, fewer);
  fits = record {
    once = λ x. let a : min 0 n ≡ 0 = omega arith in sym (ap (once_below x) a ∙ once_below-zero x);
    best_found = inl refl;
    each = all-of (ViewFits n 0 n) (newcomer n workers ∷ []) one;
    claims = omega arith;
    used_up = λ h. absurd (omega arith);
    weights = omega arith;
  };
}
  where
    newcomer_sound : ViewFits n 0 n (newcomer n workers)
    newcomer_sound = record {
      found = All-nil (λ x. n ≤ x);
      skipped = All-nil (λ x. n < x);
      spent = omega arith;
      past = omega arith;
      sees = λ h. (refl, omega arith);
      blank = λ e. let e' : workers ≡ 0 = e in absurd (omega arith);
    }

    one : (k : ℕ) (v : View) → get_elem? (newcomer n workers ∷ []) k ≡ some v → ViewFits n 0 n v
    one zero v e = subst (ViewFits n 0 n) (some-injective _ _ e) newcomer_sound
    one (suc k) v e = absurd (some-ne-none v (sym e))

module _ (n workers : ℕ) where
  pub splits : (id : ℕ) (v : View) → 1 < v.weight → v.spent ≡ 0 → Splits (Rule n workers) id v (without_newcomer v) (newcomer v.pieces 1)
  splits id v wide unspent s k at =
      let l : List View = set s.views id (without_newcomer v) in
      let new : View = newcomer v.pieces 1 in
      let sound = all-at (ViewFits n k.next k.best) s.views id v k.fits.each at in
      let named = sound.sees (omega arith) in
      let top = best-small n workers k.next k.best s.views k.fits in
      record {
        next = k.next;
        best = k.best;
        words_are = k.words_are;
        small = k.small;
        fits = record {
          once = λ x. let o = k.fits.once x in let t = sum_by-set (having x) s.views id v (without_newcomer v) at in let a = sum_by-append (having x) l (new ∷ []) in
              let before = count_of-all x s.views in let after = count_of-all x (l ++ new ∷ []) in omega arith;
          best_found = best-listed n k.best (l ++ new ∷ []) (
              let t = sum_by-set (λ u. count_of k.best u.found) s.views id v (without_newcomer v) at in let a = sum_by-append (λ u. count_of k.best u.found) l (new ∷ []) in
              ⊎_elim (λ (e : k.best ≡ n). inl e) (λ (h : 0 < found_times k.best s.views). inr (omega arith)) (best-counted n k.best s.views k.fits.best_found));
          each = all-of (ViewFits n k.next k.best) (l ++ new ∷ []) (λ j u e.
              ⊎_elim
              (λ (old : get_elem? l j ≡ some u).
              ⊎_elim
              (λ (here : (j ≡ id) × (without_newcomer v ≡ u)). subst (ViewFits n k.next k.best) here.1 (record {
                found = sound.found;
                skipped = sound.skipped;
                spent = omega arith;
                past = sound.past;
                sees = λ h. named;
                blank = λ z. let z' : v.weight - 1 ≡ 0 = z in absurd (omega arith);
              }))
              (λ (there : (j ≢ id) × (get_elem? s.views j ≡ some u)). all-at (ViewFits n k.next k.best) s.views j u k.fits.each there.1)
              (at_set s.views id j (without_newcomer v) u old))
              (λ (is : new ≡ u). subst (ViewFits n k.next k.best) is (record {
                found = All-nil (λ x. k.best ≤ x);
                skipped = All-nil (λ x. k.best < x);
                spent = omega arith;
                past = omega arith;
                sees = λ h. (named.0, let e = named.0 in omega arith);
                blank = λ z. let z' : 1 ≡ 0 = z in absurd (omega arith);
              }))
              (at_snoc l new u j e));
          claims = let g = k.fits.claims in let t = sum_by-set (λ u. u.spent) s.views id v (without_newcomer v) at in let a = sum_by-append (λ u. u.spent) l (new ∷ []) in omega arith;
          used_up = λ h. let t = sum_by-set (λ u. u.spent) s.views id v (without_newcomer v) at in let a = sum_by-append (λ u. u.spent) l (new ∷ []) in k.fits.used_up (omega arith);
          weights = let g = k.fits.weights in let t = sum_by-set (λ u. u.weight) s.views id v (without_newcomer v) at in let a = sum_by-append (λ u. u.weight) l (new ∷ []) in omega arith;
        };
      }

  -- sums over the views do not change
  joined-sum_by : (f : View → ℕ) (views : List View) (id other : ℕ) (v w : View) → get_elem? views id ≡ some v → get_elem? (set views id (merged v w)) other ≡ some w
      → f (merged v w) ≡ f v + f w → f blank ≡ 0 → sum_by f (set (set views id (merged v w)) other blank) ≡ sum_by f views
  joined-sum_by f views id other v w at there both none_left =
      let a = sum_by-set f views id v (merged v w) at in let b = sum_by-set f (set views id (merged v w)) other w blank there in omega arith

  pub joins : (id other : ℕ) (v w : View) → 0 < v.weight → 0 < w.weight → Joins (Rule n workers) id v other w (merged v w) blank
  joins id other v w some_v some_w s k at apart there =
      let both = merged v w in
      let l : List View = set s.views id both in
      let sv = all-at (ViewFits n k.next k.best) s.views id v k.fits.each at in
      let was : get_elem? s.views other ≡ some w = sym (set_else s.views id other both apart) ∙ there in
      let sw = all-at (ViewFits n k.next k.best) s.views other w k.fits.each was in
      let nv = sv.sees some_v in
      let nw = sw.sees some_w in
      let same = λ (f : View → ℕ) (b : f both ≡ f v + f w) (z : f blank ≡ 0). joined-sum_by f s.views id other v w at there b z in
      record {
        next = k.next;
        best = k.best;
        words_are = k.words_are;
        small = k.small;
        fits = record {
          once = λ x. count_of-all x (set l other blank)
              ∙ (same (having x) (omega (arith, count_of-append x v.held w.held, count_of-append x v.clean w.clean, count_of-append x v.found w.found, count_of-append x v.skipped w.skipped, count_of-append x v.given w.given)) refl
              ∙ (sym (count_of-all x s.views) ∙ k.fits.once x));
          best_found = best-listed n k.best (set l other blank) (let t = same (λ u. count_of k.best u.found) (count_of-append k.best v.found w.found) refl in
              ⊎_elim (λ (e : k.best ≡ n). inl e) (λ (h : 0 < found_times k.best s.views). inr (omega arith)) (best-counted n k.best s.views k.fits.best_found));
          each = all-of (ViewFits n k.next k.best) (set l other blank) (λ j u e.
              ⊎_elim
              (λ (here : (j ≡ other) × (blank ≡ u)). subst (ViewFits n k.next k.best) here.1 (record {
                found = All-nil (λ x. k.best ≤ x);
                skipped = All-nil (λ x. k.best < x);
                spent = omega arith;
                past = omega arith;
                sees = λ h. absurd (omega arith);
                blank = λ z. refl;
              }))
              (λ (old : (j ≢ other) × (get_elem? l j ≡ some u)).
              ⊎_elim
              (λ (here : (j ≡ id) × (both ≡ u)). subst (ViewFits n k.next k.best) here.1 (record {
                found = All-append (λ y. k.best ≤ y) v.found w.found sv.found sw.found;
                skipped = All-append (λ y. k.best < y) v.skipped w.skipped sv.skipped sw.skipped;
                spent = let a = sv.spent in let b = sw.spent in omega arith;
                past = let a = sv.past in let b = sw.past in omega arith;
                sees = λ h. (nw.0, let a = nv.1 in let b = nw.1 in omega arith);
                blank = λ z. let z' : v.weight + w.weight ≡ 0 = z in absurd (omega arith);
              }))
              (λ (t : (j ≢ id) × (get_elem? s.views j ≡ some u)). all-at (ViewFits n k.next k.best) s.views j u k.fits.each t.1)
              (at_set s.views id j both u old.1))
              (at_set l other j blank u e));
          claims = let t = same (λ u. u.spent) refl refl in let g = k.fits.claims in omega arith;
          used_up = λ h. let t = same (λ u. u.spent) refl refl in k.fits.used_up (omega arith);
          weights = same (λ u. u.weight) refl refl ∙ k.fits.weights;
        };
      }

-- once one seat has all the weight, sums over the views are its own
pub alone : (f : View → ℕ) (n workers next best : ℕ) (views : List View) (id : ℕ) (v : View) → f blank ≡ 0 → FitsBoard n workers next best views → get_elem? views id ≡ some v → v.weight ≡ workers → 0 < workers
    → sum_by f views ≡ f v
alone f n workers next best views id v none_left k at whole some_workers =
    let e = sum_by-set f views id v blank at in
    let rest : sum_by f (set views id blank) ≡ 0 = sum_by-none f (set views id blank) (λ j u h.
    ⊎_elim
    (λ (here : (j ≡ id) × (blank ≡ u)). ap f (sym here.1) ∙ none_left)
    (λ (there : (j ≢ id) × (get_elem? views j ≡ some u)).
    let two = sum_by-two (λ x. x.weight) views j id u v there.1 at there.0 in
    let w = k.weights in
    let light : u.weight ≡ 0 = omega arith in
    ap f ((all-at (ViewFits n next best) views j u k.each there.1).blank light) ∙ none_left)
    (at_set views id j blank u h)) in
    omega arith

-- how often a piece is in the four sets of a view whose pieces are all decided
count_of-four : (x : ℕ) (w : View) → count_of x (w.clean ++ w.found ++ w.skipped ++ w.given) ≡ count_of x w.clean + count_of x w.found + count_of x w.skipped + count_of x w.given
count_of-four x w = omega (arith, count_of-append x (w.clean ++ w.found ++ w.skipped) w.given, count_of-append x (w.clean ++ w.found) w.skipped, count_of-append x w.clean w.found)

-- what is known once all seats are gathered, and none holds a piece
pub record Gathered (n best : ℕ) (v : View) : Type 0 where
  pub once : HasEachOnce n (v.clean ++ v.found ++ v.skipped ++ v.given)
  pub best_found : (best ≡ n) ⊎ (Contains v.found best × (best < n))
  pub least : All (λ x. best ≤ x) v.found
  pub above : All (λ x. best < x) v.skipped
  pub named : v.pieces ≡ n

pub closes : (n workers : ℕ) (words : List ℕ) (views : List View) (id : ℕ) (v : View) → FitsWords n workers words views → get_elem? views id ≡ some v
    → v.weight ≡ workers → 0 < workers → 0 < v.spent → v.held ≡ [] → Gathered n (slice_index words 1) v
closes n workers words views id v k at whole some_workers spent nothing =
    let here : k.best ≡ slice_index words 1 = sym (ap (λ ws. slice_index ws 1) k.words_are) in
    subst (λ b. Gathered n b v) here (
    let f = k.fits in
    let sound = all-at (ViewFits n k.next k.best) views id v f.each at in
    let only = λ (g : View → ℕ) (z : g blank ≡ 0). alone g n workers k.next k.best views id v z f at whole some_workers in
    let all_spent = only (λ u. u.spent) refl in
    let past : n ≤ k.next = f.used_up (omega arith) in
    let m : min k.next n ≡ n = omega arith in
    let rest = λ (x : ℕ).
    let is : count_of x v.clean + count_of x v.found + count_of x v.skipped + count_of x v.given ≡ once_below x n =
    omega (arith, only (having x) refl, f.once x, count_of-all x views, ap (once_below x) m, count_of-empty v.held nothing x) in is in
    record {
      once = λ x. count_of-four x v ∙ rest x;
      best_found = ⊎_elim (λ (e : k.best ≡ n). inl e)
          (λ (h : 0 < found_times k.best views). let a = only (λ u. count_of k.best u.found) refl in let o = rest k.best in inr (has-contains v.found k.best (omega arith), once_below-lt k.best n (omega arith)))
          (best-counted n k.best views f.best_found);
      least = sound.found;
      above = sound.skipped;
      named = (sound.sees (omega arith)).0;
    })

-- the seats' sets, in order, and then those of the view
pub gathered-set : (set : View → List ℕ) → ((v w : View) → set (merged v w) ≡ set v ++ set w) → (seats : List Seat) (v : View) → set (gathered seats v) ≡ flat_map (λ s. set s.view) seats ++ set v
gathered-set set both [] v = refl
gathered-set set both (s ∷ seats) v = both s.view (gathered seats v) ∙ (ap (λ l. set s.view ++ l) (gathered-set set both seats v) ∙ sym (append_assoc (set s.view) (flat_map (λ q. set q.view) seats) (set v)))

-- one more, which stood last, is taken in
pub gathered-push : (seats : List Seat) (s : Seat) (v : View) → gathered (seats ++ s ∷ []) v ≡ gathered seats (merged s.view v)
gathered-push [] s v = refl
gathered-push (q ∷ seats) s v = ap (merged q.view) (gathered-push seats s v)

-- the plain numbers of what was gathered
pub gathered-spent : (seats : List Seat) (v : View) → v.spent ≤ (gathered seats v).spent
gathered-spent [] v = omega arith
gathered-spent (s ∷ seats) v = let r = gathered-spent seats v in omega arith

pub gathered-pieces : (seats : List Seat) (v : View) → (gathered seats v).pieces ≡ v.pieces
gathered-pieces [] v = refl
gathered-pieces (s ∷ seats) v = gathered-pieces seats v

pub gathered-held : (seats : List Seat) (v : View) → All IsDone seats → v.held ≡ [] → (gathered seats v).held ≡ []
gathered-held [] v done nothing = nothing
gathered-held (s ∷ seats) v done nothing = ap (λ l. l ++ (gathered seats v).held) (done 0 s (omega arith)).1 ∙ gathered-held seats v (λ k d h. done (suc k) d (omega arith)) nothing

-- what holds of each element holds of all but the last, and of the last
pub all-front : {X : Type 0} (P : X → Type 0) (xs : List X) (x : X) → All P (xs ++ x ∷ []) → All P xs × P x
all-front P [] x a = ((λ k d h. absurd (omega arith)), a 0 x (omega arith))
all-front {X} P (y ∷ ys) x a = (at (all-front P ys x (λ k d h. a (suc k) d (omega arith))).0, (all-front P ys x (λ k d h. a (suc k) d (omega arith))).1)
  where
    at : All P ys → (k : ℕ) (d : X) → k < length (y ∷ ys) → P (slice_index_or (y ∷ ys) k d)
    at r zero d h = a 0 d (omega arith)
    at r (suc k) d h = r k d (omega arith)

-- whether one or the other has a piece that was given up
pub tells-more : (a b : Bool) (v w : View) → TellsGiven a v → TellsGiven b w → TellsGiven (a || b) (merged w v)
tells-more true b v w s t = ((λ _. let h = s.0 refl in omega (arith, length-append w.given v.given)), (λ _. refl))
tells-more false b v w s t = (
  (λ e. let h = t.0 e in omega (arith, length-append w.given v.given)),
  (λ h. t.1 (let none_left : ¬ (0 < length v.given) = (λ q. absurd (true≢false (sym (s.1 q)))) in omega (arith, length-append w.given v.given))),
)

-- what is known of a board whose seats were all gathered
pub record Finished (n best : ℕ) (seats : List Seat) (w : View) : Type 0 where
  pub once : SharesOut n seats
  pub least : best < n → IsLeastPiece (found_by seats) (Some best)
  pub none_found : n ≤ best → IsLeastPiece (found_by seats) None
  pub above : best < n → AllAbove (Some best) (skipped_by seats)
  pub none_skipped : n ≤ best → AllAbove None (skipped_by seats)
  pub given : given_by seats ≡ w.given
  pub pieces : w.pieces ≡ n

pub finishes : (n workers : ℕ) (words : List ℕ) (views : List View) (id : ℕ) (seats left : List Seat) (last : Seat)
    → seats ≡ left ++ last ∷ [] → (gathered left last.view).weight ≡ workers → 0 < workers → All IsDone seats
    → FitsWords n workers words views → get_elem? views id ≡ some (gathered left last.view) → Finished n (slice_index words 1) seats (gathered left last.view)
finishes n workers words views id seats left last is whole some_workers done k at =
    let over = all-front IsDone left last (subst (All IsDone) is done) in
    let w = gathered left last.view in
    let spent : 0 < w.spent = omega (arith, gathered-spent left last.view, over.1.0) in
    let g = closes n workers words views id w k at whole some_workers spent (gathered-held left last.view over.0 over.1.1) in
    let best = slice_index words 1 in
    let by = λ (set : View → List ℕ) (both : (u v : View) → set (merged u v) ≡ set u ++ set v). gathers set both in
    let clean = by (λ v. v.clean) (λ u v. refl) in
    let found = by (λ v. v.found) (λ u v. refl) in
    let skipped = by (λ v. v.skipped) (λ u v. refl) in
    let given = by (λ v. v.given) (λ u v. refl) in
    record {
      once = subst (HasEachOnce n) (λ j. clean j ++ found j ++ skipped j ++ given j) g.once;
      least = λ below. subst (λ l. IsLeastPiece l (Some best)) found (⊎_elim (λ (e : best ≡ n). absurd (omega arith)) (λ (h : Contains w.found best × (best < n)). h.0) g.best_found, g.least);
      none_found = λ top. subst (λ l. IsLeastPiece l None) found (none-past w.found (λ x h. once_below-lt x n (omega (arith, h, g.once x, count_of-four x w))) best g.least top);
      above = λ _. subst (AllAbove (Some best)) skipped g.above;
      none_skipped = λ top. subst (AllAbove None) skipped (none-past w.skipped (λ x h. once_below-lt x n (omega (arith, h, g.once x, count_of-four x w))) best (All-weaker (λ x. best < x) (λ x. best ≤ x) (λ x h. omega arith) w.skipped g.above) top);
      given = sym given;
      pieces = g.named;
    }
  where
    -- a list of numbers below n that are not below n
    none-past : (xs : List ℕ) → ((x : ℕ) → Has xs x → x < n) → (low : ℕ) → All (λ x. low ≤ x) xs → n ≤ low → xs ≡ []
    none-past [] within low all top = refl
    none-past (x ∷ xs) within low all top = absurd (let a = all 0 x (omega arith) in let b = within x (let s = one_at-same x in omega arith) in omega arith)

    gathers : (set : View → List ℕ) → ((u v : View) → set (merged u v) ≡ set u ++ set v) → set (gathered left last.view) ≡ flat_map (λ s. set s.view) seats
    gathers set both =
        gathered-set set both left last.view
        ∙ (ap (λ l. flat_map (λ s. set s.view) left ++ l) (sym (append-nil (set last.view)))
        ∙ (sym (flat_map-append (λ s. set s.view) left (last ∷ [])) ∙ ap (flat_map (λ s. set s.view)) (sym is)))

pub index-is : (xs : List ℕ) (k a : ℕ) → get_elem? xs k ≡ some a → slice_index xs k ≡ a
index-is [] k a e = absurd (some-ne-none a (sym e))
index-is (x ∷ xs) zero a e = some-injective x a e
index-is (x ∷ xs) (suc k) a e = index-is xs k a e
