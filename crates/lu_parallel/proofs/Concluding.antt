-- From the works over a cover to what is found among all schedules.
use Rattle.std.proofs.Common.{◌≡◌, ℕ, zero, suc, ◌+◌, ◌<◌, ◌≤◌, Bool, true, false, eqb, eqb-true, cond, List, [], ◌∷◌, ◌++◌, All, Contains, length, sum_by, refl, sym, ◌∙◌, ap, subst, inl, inr, arith, slice_index_or, lt-ltb}
use Rattle.std.specs.List.{AllZip}
use Rattle.std.proofs.lemmas.Bool.{cases_lt}
use Rattle.std.proofs.lemmas.List.Concat.{flat_map-cons}
use Rattle.std.proofs.lemmas.List.Elements.{Contains-append_cases}
use Rattle.std.proofs.lemmas.List.Sums.{sum_by-append, sum_by-cons}
use Rattle.atomic_table.specs.Seated.{TableId}
use Rattle.lu_component.specs.Component.{Component}
use Rattle.lu_test.specs.declared.schedule.Move.{Move}
use Rattle.lu_test.specs.Matrix.{Matrix}
use Rattle.lu_machine.specs.declared.counts.Counts.{Counts}
use Rattle.lu_machine.specs.States.{State}
use Rattle.lu_machine.specs.Starts.{IsStart}
use Rattle.lu_machine.specs.Sums.{capped, total}
use Rattle.lu_machine.specs.Order.{IsSmaller}
use Rattle.lu_machine.specs.Schedules.{BeginsWith, Lists, IsRising, IsCover}
use Rattle.lu_machine.proofs.Orders.{smaller_asym}
use Rattle.lu_machine.proofs.Numbers.{numbers_same}
use Rattle.lu_history.specs.declared.serial.SerialOp.{SerialOp}
use Rattle.lu_witness.specs.declared.judgement.Why.{Why}
use Rattle.lu_witness.specs.Goodness.{IsFirstBad, AreGood, AreAllGood, Any}
use Rattle.lu_witness.specs.Witnesses.{IsMember}
use Rattle.lu_tree.specs.declared.found.Found.TheVariants.{Clean, Bad, Abandoned}
use Rattle.lu_tree.specs.Trees.{Below}
use Rattle.lu_tree.proofs.Covers.{first_of_cover, sums_of_cover}
use Rattle.lu_board.specs.Close.{clean_by, found_by, skipped_by, given_by, SharesOut}
use Rattle.lu_board.specs.Pieces.{count_of, without_first, once_below, HasEachOnce}
use Rattle.lu_board.specs.Seats.{Seat}
use Rattle.lu_board.proofs.Counts.{Has, one_at, one_at-same, count_of-without_first, count_of-append, count_of-empty, contains-has, has-contains, once_below-suc, once_below-zero, once_below-lt}
use Rattle.lu_parallel.specs.declared.works.FoundPiece.{FoundPiece}
use Rattle.lu_parallel.specs.declared.works.Work.{Work}
use Rattle.lu_parallel.specs.Works.{piece_at, IsClean, IsWork}
use Rattle.lu_parallel.specs.Works.{IsFoundPiece as IsFoundPiece}
use Rattle.lu_parallel.specs.Conclusions.{seats_of, counts_of_works, founds_of, SkipsAbove}
use Rattle.lu_parallel.specs.Laws.{Concludes}

-- ---- sums over lists that have each number once

sum_without : (h : ℕ → ℕ) (i : ℕ) (xs : List ℕ) → Has xs i → sum_by h (without_first i xs) + h i ≡ sum_by h xs
sum_without h i [] has = absurd (omega arith)
sum_without h i (y ∷ ys) has = at (eqb i y) refl (sum_without h i ys)
  where
    at : (b : Bool) → eqb i y ≡ b → (Has ys i → sum_by h (without_first i ys) + h i ≡ sum_by h ys) → sum_by h (cond b ys (y ∷ without_first i ys)) + h i ≡ sum_by h (y ∷ ys)
    at true e more = let same = ap h (eqb-true i y e) in let c = sum_by-cons h y ys in omega arith
    at false e more =
        let none : one_at i y ≡ 0 = ap (λ b. cond b 1 0) e in
        let deeper = more (omega arith) in
        let c = sum_by-cons h y ys in let d = sum_by-cons h y (without_first i ys) in
        omega arith

none_left : (h : ℕ → ℕ) (xs : List ℕ) → ((x : ℕ) → count_of x xs ≡ 0) → sum_by h xs ≡ 0
none_left h [] each = refl
none_left h (x ∷ xs) each = absurd (let a = each x in let b = one_at-same x in omega arith)

-- h of each number below n, added up
sum_below : (ℕ → ℕ) → ℕ → ℕ
sum_below h zero = 0
sum_below h (suc n) = h n + sum_below h n

sum_nothing : (h : ℕ → ℕ) → sum_below h 0 ≡ 0
unfolding sum_below
sum_nothing h = refl

sum_once : (h : ℕ → ℕ) (n : ℕ) (xs : List ℕ) → HasEachOnce n xs → sum_by h xs ≡ sum_below h n
unfolding sum_below
sum_once h zero xs each = none_left h xs (λ x. each x ∙ once_below-zero x)
sum_once h (suc n) xs each =
    let at = λ (x : ℕ). let a = each x in let b = once_below-suc x n in let p : n + 1 ≡ suc n = omega arith in let q = ap (once_below x) p in
    let r : count_of x xs ≡ once_below x n + one_at x n = omega arith in r in
    let there : Has xs n = (let a = at n in let b = one_at-same n in omega arith) in
    let rest = sum_once h n (without_first n xs) (λ x. let a = at x in let t = count_of-without_first n x xs there in omega arith) in
    let w = sum_without h n xs there in omega arith

-- ---- lists of counts

-- the counts that stand beside i
beside : List ℕ → List Counts → ℕ → Counts
beside [] cs i = record { complete = 0; stuck = 0; cut = 0 }
beside (x ∷ xs) [] i = record { complete = 0; stuck = 0; cut = 0 }
beside (x ∷ xs) (c ∷ cs) i = cond (eqb i x) c (beside xs cs i)

beside_is : (Q : ℕ → Counts → Type 0) (xs : List ℕ) (cs : List Counts) (i : ℕ) → AllZip Q xs cs → Has xs i → Q i (beside xs cs i)
unfolding beside
beside_is Q [] cs i all has = absurd (omega arith)
beside_is Q (x ∷ xs) [] i all has = absurd all
beside_is Q (x ∷ xs) (c ∷ cs) i all has = at (eqb i x) refl (beside_is Q xs cs i all.1)
  where
    at : (b : Bool) → eqb i x ≡ b → (Has xs i → Q i (beside xs cs i)) → Q i (cond b c (beside xs cs i))
    at true e more = subst (λ j. Q j c) (sym (eqb-true i x e)) all.0
    at false e more = let none : one_at i x ≡ 0 = ap (λ b. cond b 1 0) e in more (omega arith)

-- where the counts are determined, they add up as those that f gives
sum_zip : (Q : ℕ → Counts → Type 0) (f : ℕ → Counts) (get : Counts → ℕ) (xs : List ℕ) (cs : List Counts) → ((i : ℕ) (a b : Counts) → Q i a → Q i b → a ≡ b) → ((i : ℕ) → Has xs i → Q i (f i)) → AllZip Q xs cs → sum_by get cs ≡ sum_by (λ i. get (f i)) xs
sum_zip Q f get [] [] one each all = refl
sum_zip Q f get [] (c ∷ cs) one each all = absurd all
sum_zip Q f get (x ∷ xs) [] one each all = absurd all
sum_zip Q f get (x ∷ xs) (c ∷ cs) one each all =
    let rest = sum_zip Q f get xs cs one (λ i has. each i (omega arith)) all.1 in
    let same : c ≡ f x = one x c (f x) all.0 (each x (let b = one_at-same x in omega arith)) in
    let e = ap get same in
    let a = sum_by-cons get c cs in let b = sum_by-cons (λ i. get (f i)) x xs in
    omega arith

-- the counts that f gives to the pieces from number k on
given_from : (ℕ → Counts) → ℕ → List (List Move) → List Counts
given_from f k [] = []
given_from f k (p ∷ pieces) = f k ∷ given_from f (k + 1) pieces

sum_given : (f : ℕ → Counts) (get : Counts → ℕ) (k : ℕ) (pieces : List (List Move)) → sum_by get (given_from f k pieces) + sum_below (λ i. get (f i)) k ≡ sum_below (λ i. get (f i)) (k + length pieces)
unfolding given_from sum_below
sum_given f get k [] = (let e : k + 0 ≡ k = omega arith in let m = ap (sum_below (λ i. get (f i))) e in omega arith)
sum_given f get k (p ∷ pieces) =
    let rest = sum_given f get (k + 1) pieces in
    let c = sum_by-cons get (f k) (given_from f (k + 1) pieces) in
    let s : k + 1 ≡ suc k = omega arith in
    let t : sum_below (λ i. get (f i)) (k + 1) ≡ get (f k) + sum_below (λ i. get (f i)) k = ap (sum_below (λ i. get (f i))) s in
    let l : (k + 1) + length pieces ≡ k + length (p ∷ pieces) = omega arith in
    let m = ap (sum_below (λ i. get (f i))) l in
    omega arith

given_zip : (P : List Move → Counts → Type 0) (f : ℕ → Counts) (k : ℕ) (pieces : List (List Move)) → ((i : ℕ) → i < length pieces → P (piece_at pieces i) (f (k + i))) → AllZip P pieces (given_from f k pieces)
unfolding given_from
given_zip P f k [] each = tt
given_zip P f k (p ∷ pieces) each = (
  subst (λ j. P p (f j)) (let e : k + 0 ≡ k = omega arith in e) (each 0 (omega arith)),
  given_zip P f (k + 1) pieces (λ i within. subst (λ j. P (piece_at pieces i) (f j)) (let e : k + suc i ≡ (k + 1) + i = omega arith in e) (each (suc i) (omega arith))),
)

zip_append : {A B : Type 0} (R : A → B → Type 0) (xs : List A) (ys : List B) (us : List A) (vs : List B) → AllZip R xs ys → AllZip R us vs → AllZip R (xs ++ us) (ys ++ vs)
zip_append R [] [] us vs all more = more
zip_append R [] (b ∷ ys) us vs all more = absurd all
zip_append R (a ∷ xs) [] us vs all more = absurd all
zip_append R (a ∷ xs) (b ∷ ys) us vs all more = (all.0, zip_append R xs ys us vs all.1 more)

-- ---- pieces in order

listed_at : (pieces : List (List Move)) (i : ℕ) → i < length pieces → Lists pieces (piece_at pieces i)
listed_at [] i within = absurd (omega arith)
listed_at (p ∷ pieces) zero within = inl refl
listed_at (p ∷ pieces) (suc i) within = inr (listed_at pieces i (omega arith))

place_of : (pieces : List (List Move)) (q : List Move) → Lists pieces q → (j : ℕ) × (j < length pieces) × (piece_at pieces j ≡ q)
place_of [] q listed = absurd listed
place_of (p ∷ pieces) q (inl is) = (0, omega arith, is)
place_of (p ∷ pieces) q (inr listed) = (let r = place_of pieces q listed in let h = r.1 in (suc r.0, omega arith, r.2))

rising_at : (pieces : List (List Move)) (i j : ℕ) → IsRising pieces → i < j → j < length pieces → IsSmaller (piece_at pieces i) (piece_at pieces j)
rising_at [] i j rising less within = absurd (omega arith)
rising_at (p ∷ pieces) i zero rising less within = absurd (omega arith)
rising_at (p ∷ pieces) zero (suc j) rising less within = rising.0 (piece_at pieces j) (listed_at pieces j (omega arith))
rising_at (p ∷ pieces) (suc i) (suc j) rising less within = rising_at pieces i j rising.1 (omega arith) (omega arith)

-- a smaller piece has a lesser number
place_below : (pieces : List (List Move)) (i j : ℕ) → IsRising pieces → i < length pieces → j < length pieces → IsSmaller (piece_at pieces j) (piece_at pieces i) → j < i
place_below pieces i j rising within there smaller =
    elim (cases_lt j i) [
      | inl less ↦ less
      | inr most ↦ absurd (elim (cases_lt i j) [
        | inl more ↦ smaller_asym (piece_at pieces j) (piece_at pieces i) smaller (rising_at pieces i j rising more there)
        | inr least ↦ (let same : j ≡ i = omega arith in let twice : IsSmaller (piece_at pieces i) (piece_at pieces i) = subst (λ k. IsSmaller (piece_at pieces k) (piece_at pieces i)) same smaller in smaller_asym _ _ twice twice)
      ])
    ]

-- ---- works

zero_or : (n : ℕ) → (0 < n → ⊥) → n ≡ 0
zero_or zero h = refl
zero_or (suc n) h = absurd (h (omega arith))

count_four : (x : ℕ) (a b c d : List ℕ) → count_of x (a ++ b ++ c ++ d) ≡ count_of x a + count_of x b + count_of x c + count_of x d
count_four x a b c d =
    let e = count_of-append x (a ++ b ++ c) d in let f = count_of-append x (a ++ b) c in let g = count_of-append x a b in omega arith

sums_join : (get : Counts → ℕ) (c : Counts) (cs numbers more : List Counts) → get c ≡ capped (sum_by get numbers) → capped (sum_by get cs) ≡ capped (sum_by get more) → capped (sum_by get (c ∷ cs)) ≡ capped (sum_by get (numbers ++ more))
sums_join get c cs numbers more first rest = (let a = sum_by-cons get c cs in let b = sum_by-append get numbers more in omega arith)

module _ (c : Component) (matrix : Matrix) (members : List (List SerialOp)) (s : State) (bound : ℕ) (pieces : List (List Move)) (board : TableId) (start : IsStart c matrix s) where
  -- the numbers of all clean pieces
  record Numbered (works : List Work) : Type 0 where
    numbers : List Counts
    zip : AllZip (IsClean (IsMember members) s bound pieces) (clean_by (seats_of works)) numbers
    complete : capped (sum_by (λ (x : Counts). x.complete) (counts_of_works works)) ≡ capped (sum_by (λ (x : Counts). x.complete) numbers)
    stuck : capped (sum_by (λ (x : Counts). x.stuck) (counts_of_works works)) ≡ capped (sum_by (λ (x : Counts). x.stuck) numbers)
    cut : capped (sum_by (λ (x : Counts). x.cut) (counts_of_works works)) ≡ capped (sum_by (λ (x : Counts). x.cut) numbers)

  numbered : (works : List Work) → All (IsWork c matrix members bound pieces board) works → Numbered works
  numbered [] all = record { numbers = []; zip = tt; complete = refl; stuck = refl; cut = refl }
  numbered (w ∷ ws) all =
      let first = (all 0 w (omega arith)).holds s start in
      let rest = numbered ws (λ k d within. all (suc k) d (omega arith)) in
      record {
        numbers = first.numbers ++ rest.numbers;
        zip = rw (flat_map-cons (λ (x : Seat). x.view.clean) w.seat (seats_of ws)) (zip_append (IsClean (IsMember members) s bound pieces) w.seat.view.clean first.numbers (clean_by (seats_of ws)) rest.numbers first.clean rest.zip);
        complete = sums_join (λ (x : Counts). x.complete) w.counts (counts_of_works ws) first.numbers rest.numbers (ap (λ (x : Counts). x.complete) first.sums) rest.complete;
        stuck = sums_join (λ (x : Counts). x.stuck) w.counts (counts_of_works ws) first.numbers rest.numbers (ap (λ (x : Counts). x.stuck) first.sums) rest.stuck;
        cut = sums_join (λ (x : Counts). x.cut) w.counts (counts_of_works ws) first.numbers rest.numbers (ap (λ (x : Counts). x.cut) first.sums) rest.cut;
      }

  -- each found entry is right
  entries_right : (works : List Work) → All (IsWork c matrix members bound pieces board) works → (f : FoundPiece) → Contains (founds_of works) f → IsFoundPiece (IsMember members) s bound pieces f
  entries_right [] all f has = absurd (let h = has.1 in omega arith)
  entries_right (w ∷ ws) all f has =
      let first = (all 0 w (omega arith)).holds s start in
      let parts : Contains (w.found.items ++ founds_of ws) f = subst (λ (x : List FoundPiece). Contains x f) (flat_map-cons (λ (x : Work). x.found.items) w ws) has in
      elim (Contains-append_cases w.found.items (founds_of ws) f parts) [
        | inl here ↦ subst (λ (x : FoundPiece). IsFoundPiece (IsMember members) s bound pieces x) here.2 (first.right here.0 f here.1)
        | inr later ↦ entries_right ws (λ k d within. all (suc k) d (omega arith)) f later
      ]

  one_clean : (i : ℕ) (a b : Counts) → IsClean (IsMember members) s bound pieces i a → IsClean (IsMember members) s bound pieces i b → a ≡ b
  one_clean i a b x y = numbers_same s bound (Below (piece_at pieces i)) a b x.numbers y.numbers

  module _ (works : List Work) (all : All (IsWork c matrix members bound pieces board) works) (cover : IsCover s bound pieces) (shares : SharesOut (length pieces) (seats_of works)) (skips : SkipsAbove works) (none_given : given_by (seats_of works) ≡ []) where
    once : (x : ℕ) → count_of x (clean_by (seats_of works)) + count_of x (found_by (seats_of works)) + count_of x (skipped_by (seats_of works)) ≡ once_below x (length pieces)
    once x =
        let h = shares x in
        let f = count_four x (clean_by (seats_of works)) (found_by (seats_of works)) (skipped_by (seats_of works)) (given_by (seats_of works)) in
        let g = count_of-empty (given_by (seats_of works)) none_given x in
        omega arith

    clean_found : (counts : Counts) → found_by (seats_of works) ≡ [] → counts ≡ total (counts_of_works works) → AreAllGood (IsMember members) s bound Any counts
    clean_found counts none sum =
        let n = numbered works all in
        let xs = clean_by (seats_of works) in
        let f = beside xs n.numbers in
        let unskipped = λ (x : ℕ). zero_or (count_of x (skipped_by (seats_of works))) (λ has. let k = skips x (has-contains (skipped_by (seats_of works)) x has) in let h : Contains [] k.0 = subst (λ (y : List ℕ). Contains y k.0) none k.2 in let l = h.1 in omega arith) in
        let each : HasEachOnce (length pieces) xs = λ x. (let o = once x in let a = count_of-empty (found_by (seats_of works)) none x in let b = unskipped x in omega arith) in
        let right = λ (i : ℕ) (has : Has xs i). beside_is (IsClean (IsMember members) s bound pieces) xs n.numbers i n.zip has in
        let given = given_from f 0 pieces in
        let add = λ (get : Counts → ℕ).
        (let a = sum_zip (IsClean (IsMember members) s bound pieces) f get xs n.numbers one_clean right n.zip in
        let b = sum_once (λ i. get (f i)) (length pieces) xs each in
        let d = sum_given f get 0 pieces in
        let z = sum_nothing (λ i. get (f i)) in
        let e : 0 + length pieces ≡ length pieces = omega arith in
        let g = ap (sum_below (λ i. get (f i))) e in
        let r : sum_by get n.numbers ≡ sum_by get given = omega arith in r) in
        let same : total (counts_of_works works) ≡ total given =
        rw (n.complete ∙ ap capped (add (λ (x : Counts). x.complete)), n.stuck ∙ ap capped (add (λ (x : Counts). x.stuck)), n.cut ∙ ap capped (add (λ (x : Counts). x.cut))) refl in
        let zip : AllZip (λ p k. AreAllGood (IsMember members) s bound (Below p) k) pieces given =
        given_zip (λ p k. AreAllGood (IsMember members) s bound (Below p) k) f 0 pieces
        (λ i within. let e : 0 + i ≡ i = omega arith in subst (λ j. AreAllGood (IsMember members) s bound (Below (piece_at pieces i)) (f j)) (sym e)
        (right i (let o = each i in let l : once_below i (length pieces) ≡ 1 = ap (λ b. cond b 1 0) (lt-ltb i (length pieces) within) in omega arith))) in
        subst (AreAllGood (IsMember members) s bound Any) (sym (sum ∙ same)) (sums_of_cover (IsMember members) s bound pieces given cover zip)

    bad_found : (i : ℕ) (u : List Move) (why : Why) → Contains (found_by (seats_of works)) i → All (λ y. i ≤ y) (found_by (seats_of works)) → Contains (founds_of works) (record { piece = i; schedule = u; why = why }) → IsFirstBad (IsMember members) s bound Any u why
    bad_found i u why has least entry =
        let right = entries_right works all (record { piece = i; schedule = u; why = why }) entry in
        let found = found_by (seats_of works) in
        let within : i < length pieces = once_below-lt i (length pieces) (let o = once i in let h = contains-has found i has in omega arith) in
        let earlier : (q : List Move) → Lists pieces q → IsSmaller q (piece_at pieces i) → AreGood (IsMember members) s bound (Below q) =
        λ q listed smaller v begins ended.
        (let place = place_of pieces q listed in
        let j = place.0 in
        let below : j < i = place_below pieces i j cover.rising within place.1 (subst (λ (x : List Move). IsSmaller x (piece_at pieces i)) (sym place.2) smaller) in
        let unfound = zero_or (count_of j found) (λ h. let k = has-contains found j h in let l : i ≤ slice_index_or found k.0 j = least k.0 j k.1 in let e = k.2 in omega arith) in
        let unskipped = zero_or (count_of j (skipped_by (seats_of works))) (λ h. let k = skips j (has-contains (skipped_by (seats_of works)) j h) in let l : i ≤ slice_index_or found k.2.0 k.0 = least k.2.0 k.0 k.2.1 in let e = k.2.2 in let m = k.1 in omega arith) in
        let n = numbered works all in
        let xs = clean_by (seats_of works) in
        let one : once_below j (length pieces) ≡ 1 = ap (λ b. cond b 1 0) (lt-ltb j (length pieces) place.1) in
        let clean = beside_is (IsClean (IsMember members) s bound pieces) xs n.numbers j n.zip (let o = once j in omega arith) in
        clean.good v (subst (BeginsWith v) (sym place.2) begins) ended) in
        first_of_cover (IsMember members) s bound pieces (piece_at pieces i) u why cover (listed_at pieces i within) earlier right

pub concluded : Concludes
concluded members s bound works (Clean counts) over conclusion =
    clean_found over.component over.matrix members s bound over.pieces over.board over.start works over.each over.cover over.shares over.skips conclusion.0 counts conclusion.1.0 conclusion.1.1
concluded members s bound works (Bad u why) over conclusion =
    bad_found over.component over.matrix members s bound over.pieces over.board over.start works over.each over.cover over.shares over.skips conclusion.0 conclusion.1.0 u why conclusion.1.1.0 conclusion.1.1.1 conclusion.1.2
concluded members s bound works Abandoned over conclusion = elim (conclusion.1) [ ]
