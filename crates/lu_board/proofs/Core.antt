-- Legal events keep the rule, and a run that is done knows the least bad piece.
use Rattle.std.proofs.Common.{◌≡◌, ◌≢◌, ℕ, zero, suc, ◌+◌, ◌*◌, ◌<◌, ◌≤◌, min, Bool, true, false, cond, not, ◌&&◌, ltb, List, [], ◌∷◌, ◌++◌, set, get_or, length, take, refl, sym, ap, ◌∙◌, subst, inl, ⊎_elim, arith, true≢false, ltb-true, eqb-true, length-set, replicate, lt-ltb, All, sum_by, IsTrue, MatchBool, ◌↔◌}
use Rattle.std.proofs.lemmas.List.{length-replicate, take_more}
use Rattle.std.proofs.lemmas.List.Elements.{All-from_all_within, All-nil, All-push, All-replicate, All-contains}
use Rattle.std.proofs.lemmas.List.Folds.{sum_by-replicate, length-flat_map-take}
use Rattle.std.proofs.lemmas.List.Concat.{length-flat_map}
use Rattle.std.proofs.lemmas.Grind.{flat_map-append}
use mathlib.Core.Option.{some}
use lib.ListN.{get_elem?}
use Rattle.std.specs.Prelude.{slice_set}
use Rattle.std.specs.List.{HoldsAt, AllWithin}
use Rattle.atomic_table.proofs.Lists.{at_set}
use Rattle.lu_board.specs.declared.view.View.{View}
use Rattle.lu_board.specs.declared.view.Kind.{Kind}
use Rattle.lu_board.specs.declared.view.Kind.TheVariants.{Clean, GivenUp}
use Rattle.lu_board.specs.declared.board_core.CoreEvent.{CoreEvent}
use Rattle.lu_board.specs.declared.board_core.CoreEvent.TheVariants.{Claim, Look, Lower, Settle}
use Rattle.lu_board.specs.Pieces.{count_of, once_below}
use Rattle.lu_board.specs.Views.{newcomer, blank, IsOver}
use Rattle.lu_board.specs.Events.{with_held, with_spent, with_seen, with_skipped, with_found, with_settled, after_claim, after_look}
use Rattle.lu_board.specs.Fit.{ViewFits, FitsBoard}
use Rattle.lu_board.specs.Core.{CoreState, start, view_at, is_bad, may_settle, is_legal, after_event, after_events, all_legal, AgreesWith, CoreInvariant, AllDone, given_in}
use Rattle.lu_board.proofs.Counts.{having, all-at, all-of, elem-at, is_in-has, has-contains, count_of-empty, count_of-all, count_of-flat_map, once_below-zero, sum_by-has, sum_by-some}
use Rattle.lu_board.proofs.Keeps.{Moves, spent-few, fits-step, best-counted, claim-moves, look-moves, find-moves, settle-moves}

pub both : (a b : Bool) → a && b ≡ true → (a ≡ true) × (b ≡ true)
both true true e = (refl, refl)
both true false e = absurd (true≢false (sym e))
both false b e = absurd (true≢false (sym e))

index-true : (l : List Bool) (i : ℕ) → get_or l i false ≡ true → i < length l
index-true [] i e = absurd (true≢false (sym e))
index-true (x ∷ xs) zero e = omega arith
index-true (x ∷ xs) (suc i) e = let r = index-true xs i e in omega arith

-- the view of a worker that there is
there : (m : CoreState) (w : ℕ) → ltb w (length m.views) ≡ true → get_elem? m.views w ≡ some (view_at m w)
there m w e = elem-at m.views w blank (ltb-true w (length m.views) e)

-- what each event leaves true of a worker's pieces
true-claim : (bad : List Bool) (n next : ℕ) (v : View) → AgreesWith bad v → AgreesWith bad (after_claim n next v)
true-claim bad n next v t = at (ltb next n)
  where
    at : (b : Bool) → AgreesWith bad (cond b (with_held next v) (with_spent v))
    at true = record { weight = t.weight; found = t.found; clean = t.clean }
    at false = record { weight = t.weight; found = t.found; clean = t.clean }

true-look : (bad : List Bool) (i best : ℕ) (v : View) → AgreesWith bad v → AgreesWith bad (after_look i best v)
true-look bad i best v t = at (ltb best i)
  where
    at : (b : Bool) → AgreesWith bad (cond b (with_skipped i best v) (with_seen best v))
    at true = record { weight = t.weight; found = t.found; clean = t.clean }
    at false = record { weight = t.weight; found = t.found; clean = t.clean }

true-find : (bad : List Bool) (i best : ℕ) (v : View) → is_bad bad i ≡ true → AgreesWith bad v → AgreesWith bad (with_found i best v)
true-find bad i best v is t = record { weight = t.weight; found = All-push (λ x. is_bad bad x ≡ true) v.found i t.found is; clean = t.clean }

true-settle : (bad : List Bool) (i : ℕ) (kind : Kind) (v : View) → may_settle kind (is_bad bad i) ≡ true → AgreesWith bad v → AgreesWith bad (with_settled i kind v)
true-settle bad i Clean v may t = record { weight = t.weight; found = t.found; clean = All-push (λ x. is_bad bad x ≡ false) v.clean i t.clean (off (is_bad bad i) may) }
  where
    off : (b : Bool) → not b ≡ true → b ≡ false
    off true e = absurd (true≢false (sym e))
    off false e = refl
true-settle bad i GivenUp v may t = record { weight = t.weight; found = t.found; clean = t.clean }

-- one worker's view changes
replaced : (m : CoreState) (w next best : ℕ) (v u : View) → CoreInvariant m → get_elem? m.views w ≡ some v → Moves m.pieces m.next m.best next best v u → AgreesWith m.bad u
    → CoreInvariant (record { pieces = m.pieces; bad = m.bad; next = next; best = best; views = slice_set m.views w u })
replaced m w next best v u k at moves is = record {
  fits = subst (λ n. FitsBoard m.pieces n next best (set m.views w u)) (sym (length-set m.views w u)) (fits-step m.pieces (length m.views) m.next m.best next best m.views w v u k.fits at moves);
  each = all-of (AgreesWith m.bad) (set m.views w u) (λ j x e.
      ⊎_elim (λ (t : (j ≡ w) × (u ≡ x)). subst (AgreesWith m.bad) t.1 is) (λ (t : (j ≢ w) × (get_elem? m.views j ≡ some x)). all-at (AgreesWith m.bad) m.views j x k.each t.1) (at_set m.views w j u x e));
  covers = k.covers;
  small = let l = length-set m.views w u in let s = k.small in (s.0, (let p = s.1 in omega arith), (let p = s.2 in omega arith));
}

pub keeps-one : (m : CoreState) (e : CoreEvent) → CoreInvariant m → is_legal m e ≡ true → CoreInvariant (after_event m e)
keeps-one m (Claim w) k l =
    let p = both _ _ l in
    let v = view_at m w in
    let at = there m w p.0 in
    let t = all-at (AgreesWith m.bad) m.views w v k.each at in
    replaced m w (m.next + 1) m.best v (after_claim m.pieces m.next v) k at (claim-moves m.pieces m.next m.best v t.weight (eqb-true v.spent 0 p.1)) (true-claim m.bad m.pieces m.next v t)
keeps-one m (Look w i) k l =
    let p = both _ _ l in
    let v = view_at m w in
    let at = there m w p.0 in
    let t = all-at (AgreesWith m.bad) m.views w v k.each at in
    replaced m w m.next m.best v (after_look i m.best v) k at (look-moves m.pieces m.next m.best i v t.weight (is_in-has i v.held p.1)) (true-look m.bad i m.best v t)
keeps-one m (Lower w i) k l =
    let p = both _ _ l in
    let q = both _ _ p.0 in
    let v = view_at m w in
    let at = there m w q.0 in
    let t = all-at (AgreesWith m.bad) m.views w v k.each at in
    replaced m w m.next (min m.best i) v (with_found i (min m.best i) v) k at (find-moves m.pieces m.next m.best i v t.weight (is_in-has i v.held q.1)) (true-find m.bad i (min m.best i) v p.1 t)
keeps-one m (Settle w i kind) k l =
    let p = both _ _ l in
    let q = both _ _ p.0 in
    let v = view_at m w in
    let at = there m w q.0 in
    let t = all-at (AgreesWith m.bad) m.views w v k.each at in
    replaced m w m.next m.best v (with_settled i kind v) k at (settle-moves m.pieces m.next m.best i kind v t.weight (is_in-has i v.held q.1)) (true-settle m.bad i kind v p.1 t)

-- of a run that is done, with nothing given up, the best is at most any bad piece
pub bounds : (m : CoreState) → CoreInvariant m → AllDone m.views → given_in m.views ≡ [] → (i : ℕ) → is_bad m.bad i ≡ true → m.best ≤ i
bounds m k done none_given i bad =
    let first = elem-at m.views 0 blank k.small.1 in
    let some_spent = sum_by-has (λ v. v.spent) m.views 0 (get_or m.views 0 blank) first in
    let spent = (done 0 blank k.small.1).0 in
    let past : m.pieces ≤ m.next = k.fits.used_up (omega arith) in
    let least : min m.next m.pieces ≡ m.pieces = omega arith in
    let within = index-true m.bad i bad in
    let covers = k.covers in
    let one : once_below i (min m.next m.pieces) ≡ 1 = ap (λ b. cond b 1 0) (lt-ltb i (min m.next m.pieces) (omega arith)) in
    let o = k.fits.once i in
    let counted = count_of-all i m.views in
    let owner = sum_by-some (having i) m.views (omega arith) in
    let w = owner.0 in
    let v = owner.1 in
    let free = count_of-empty v.held (all-at IsOver m.views w v done owner.2).1 i in
    let few = sum_by-has (λ (u : View). count_of i u.given) m.views w v owner.2 in
    let all_given = count_of-flat_map (λ (u : View). u.given) i m.views in
    let given = count_of-empty (given_in m.views) none_given i in
    let none : count_of i v.given ≡ 0 = omega (arith, few, all_given, given) in
    let fit = all-at (ViewFits m.pieces m.next m.best) m.views w v k.fits.each owner.2 in
    let some_one = owner.3 in
    pick v.found v.skipped v.clean (count_of i v.found) refl (count_of i v.skipped) refl (count_of i v.clean) refl fit.found fit.skipped (all-at (AgreesWith m.bad) m.views w v k.each owner.2).clean (omega arith)
  where
    pick : (f s c : List ℕ) (a : ℕ) → count_of i f ≡ a → (b : ℕ) → count_of i s ≡ b → (d : ℕ) → count_of i c ≡ d → All (λ x. m.best ≤ x) f → All (λ x. m.best < x) s → All (λ x. is_bad m.bad x ≡ false) c
        → 0 < d + a + b → m.best ≤ i
    pick f s c (suc a) ea b eb d ed found skipped clean h = All-contains (λ x. m.best ≤ x) f i found (has-contains f i (omega arith))
    pick f s c zero ea (suc b) eb d ed found skipped clean h = let q = All-contains (λ x. m.best < x) s i skipped (has-contains s i (omega arith)) in omega arith
    pick f s c zero ea zero eb d ed found skipped clean h = absurd (true≢false (sym bad ∙ All-contains (λ x. is_bad m.bad x ≡ false) c i clean (has-contains c i (omega arith))))

-- and it is a bad piece, or n
pub is_one : (m : CoreState) → CoreInvariant m → m.best < m.pieces → is_bad m.bad m.best ≡ true
is_one m k below =
    ⊎_elim
    (λ (e : m.best ≡ m.pieces). absurd (omega arith))
    (λ (h : 0 < sum_by (λ (v : View). count_of m.best v.found) m.views).
    let o = sum_by-some (λ (v : View). count_of m.best v.found) m.views h in
    All-contains (λ x. is_bad m.bad x ≡ true) o.1.found m.best (all-at (AgreesWith m.bad) m.views o.0 o.1 k.each o.2).found (has-contains o.1.found m.best o.3))
    (best-counted m.pieces m.best m.views k.fits.best_found)

pub none_bad : (m : CoreState) → CoreInvariant m → AllDone m.views → given_in m.views ≡ [] → m.pieces ≤ m.best → (i : ℕ) → is_bad m.bad i ≡ false
none_bad m k done none_given above i = at (is_bad m.bad i) refl
  where
    at : (b : Bool) → is_bad m.bad i ≡ b → b ≡ false
    at false e = refl
    at true e = absurd (let q = bounds m k done none_given i e in let w = index-true m.bad i e in let c = k.covers in omega arith)

-- a new board
pub begins : (n workers : ℕ) (bad : List Bool) → n ≤ 65536 → length bad ≡ n → 0 < workers → workers ≤ 16 → CoreInvariant (start n workers bad)
begins n workers bad few covers some_workers fewer = record {
  fits = subst (λ k. FitsBoard n k 0 n views) (sym (length-replicate workers (newcomer n 1))) (record {
    once = λ x. let a : min 0 n ≡ 0 = omega arith in
        let b = sum_by-replicate (having x) workers (newcomer n 1) in
        let c : workers * 0 ≡ 0 = omega arith in
        omega (arith, count_of-all x views, b, c, ap (once_below x) a, once_below-zero x);
    best_found = inl refl;
    each = All-replicate (ViewFits n 0 n) workers (newcomer n 1) fresh;
    claims = omega arith;
    used_up = λ h. let z = sum_by-replicate (λ (v : View). v.spent) workers (newcomer n 1) in let c : workers * 0 ≡ 0 = omega arith in absurd (omega (arith, h, z, c));
    weights = let z = sum_by-replicate (λ (v : View). v.weight) workers (newcomer n 1) in let c : workers * 1 ≡ workers = omega arith in omega (arith, z, c);
  });
  each = All-replicate (AgreesWith bad) workers (newcomer n 1) (record { weight = refl; found = All-nil (λ x. is_bad bad x ≡ true); clean = All-nil (λ x. is_bad bad x ≡ false) });
  covers = covers;
  small = (few, (let l = length-replicate workers (newcomer n 1) in omega arith), (let l = length-replicate workers (newcomer n 1) in omega arith));
}
  where
    views : List View
    views = replicate workers (newcomer n 1)

    fresh : ViewFits n 0 n (newcomer n 1)
    fresh = record {
      found = All-nil (λ x. n ≤ x);
      skipped = All-nil (λ x. n < x);
      spent = omega arith;
      past = omega arith;
      sees = λ h. (refl, omega arith);
      blank = λ e. let e' : 1 ≡ 0 = e in absurd (omega arith);
    }

-- the next piece is far from overflow
pub next-small : (m : CoreState) → CoreInvariant m → m.next < 9223372036854775808
next-small m k = let c = k.fits.claims in let s = spent-few m.pieces (length m.views) m.next m.best m.views k.fits in let t = k.small in let a = t.0 in let b = t.2 in omega arith

pub and-true : (a b : Bool) → a ≡ true → b ≡ true → true ≡ a && b
and-true true true p q = refl
and-true true false p q = absurd (true≢false (sym q))
and-true false b p q = absurd (true≢false (sym p))

-- one more event
pub after_events-push : (es : List CoreEvent) (e : CoreEvent) (m : CoreState) → after_events (es ++ e ∷ []) m ≡ after_event (after_events es m) e
after_events-push [] e m = refl
after_events-push (x ∷ es) e m = after_events-push es e (after_event m x)

pub all_legal-push : (es : List CoreEvent) (e : CoreEvent) (m : CoreState) → all_legal es m ≡ true → is_legal (after_events es m) e ≡ true → all_legal (es ++ e ∷ []) m ≡ true
all_legal-push [] e m a l = sym (and-true (is_legal m e) true l refl)
all_legal-push (x ∷ es) e m a l = let p = both _ _ a in sym (and-true (is_legal m x) (all_legal (es ++ e ∷ []) (after_event m x)) p.0 (all_legal-push es e (after_event m x) p.1 l))

pub after_event-size : (m : CoreState) (e : CoreEvent) → ((after_event m e).pieces ≡ m.pieces) × (length (after_event m e).views ≡ length m.views)
after_event-size m (Claim w) = (refl, length-set m.views w (after_claim m.pieces m.next (view_at m w)))
after_event-size m (Look w i) = (refl, length-set m.views w (after_look i m.best (view_at m w)))
after_event-size m (Lower w i) = (refl, length-set m.views w (with_found i (min m.best i) (view_at m w)))
after_event-size m (Settle w i kind) = (refl, length-set m.views w (with_settled i kind (view_at m w)))

-- the pieces that one worker more gave up
pub given_in-more : (views : List View) (i : ℕ) (d : View) → i < length views → given_in (take (i + 1) views) ≡ given_in (take i views) ++ (given_in (get_or views i d ∷ []))
given_in-more views i d h = ap given_in (take_more views i d h) ∙ flat_map-append (λ (v : View). v.given) (take i views) (get_or views i d ∷ [])

-- a test that some worker gave a piece up tells whether any was given up
pub given_in-any : (b : Bool) (views : List View) → MatchBool b ((k : ℕ) × (k < length views) × HoldsAt (λ v. 0 < length v.given) views k) (AllWithin (λ v. 0 < length v.given → ⊥) views 0 (length views)) → IsTrue b ↔ (0 < length (given_in views))
given_in-any true views h = ((λ _. let le = length-flat_map-take (λ (v : View). v.given) views h.0 (get_or views h.0 blank) h.1 in let some_one = h.2 in omega (arith, le, some_one)), (λ _. refl))
given_in-any false views h = (
  (λ e. absurd (true≢false (sym e))),
  λ g.
      let o = sum_by-some (λ (v : View). length v.given) views (let l = length-flat_map (λ (v : View). v.given) views in omega (arith, g, l)) in
      let none = all-at (λ (v : View). 0 < length v.given → ⊥) views o.0 o.1 (All-from_all_within (λ (v : View). 0 < length v.given → ⊥) views h) o.2 in
      let some_one = o.3 in absurd (none some_one),
)
