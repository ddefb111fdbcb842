-- The numbers of orders by the first move.
use Rattle.std.proofs.Common.{◌≡◌, ℕ, zero, suc, ◌+◌, ◌-◌, ◌*◌, ◌^◌, ◌<◌, ◌≤◌, List, [], ◌∷◌, ◌++◌, get_or, slice_set, length, length-append, replicate, drop, refl, sym, ◌∙◌, ap, inl, inr, arith}
use Rattle.std.proofs.Math.Nat.{le-mul_of_pos_right, mul-add, mul-zero, mul_comm, one-mul}
use Rattle.std.proofs.lemmas.Bool.{cases_lt}
use Rattle.lu_machine.specs.Sums.{capped}
use Rattle.lu_orders.specs.Orders.{AreRows, IsRow, all_moves, orders, interleavings, led_by, led_below}

capped_times : (a k : ℕ) → capped (capped a * k) ≡ capped (a * k)
capped_times a zero = rw (mul-zero (capped a), mul-zero a) refl
capped_times a (suc k) =
    elim (cases_lt a (2 ^ 64)) [
      | inl few ↦ (let e : capped a ≡ a = omega arith in rw e refl)
      | inr many ↦
          (let e : capped a ≡ 2 ^ 64 - 1 = omega arith in
          let x : capped a ≤ capped a * suc k = le-mul_of_pos_right (capped a) (omega arith) in
          let y : a ≤ a * suc k = le-mul_of_pos_right a (omega arith) in
          omega arith)
    ]

-- capped numbers have the same capped product
pub capped_product : (a b : ℕ) → capped (capped a * capped b) ≡ capped (a * b)
capped_product a b =
    let p : capped (capped a * capped b) ≡ capped (a * capped b) = capped_times a (capped b) in
    let q : capped (capped b * a) ≡ capped (b * a) = capped_times b a in
    let r : a * capped b ≡ capped b * a = mul_comm a (capped b) in
    let t : b * a ≡ a * b = mul_comm b a in
    p ∙ (ap capped r ∙ (q ∙ ap capped t))

pub add-mul' : (a b k : ℕ) → (a + b) * k ≡ a * k + b * k
add-mul' a b k =
    let e : (a + b) * k ≡ k * (a + b) = mul_comm (a + b) k in
    let f : k * (a + b) ≡ k * a + k * b = mul-add k a b in
    let g : k * a ≡ a * k = mul_comm k a in
    let h : k * b ≡ b * k = mul_comm k b in
    omega arith

pub orders_zero : (a : ℕ) → orders a zero ≡ 1
orders_zero zero = refl
orders_zero (suc a) = refl

led_past : (n : ℕ) (ns : List ℕ) (t : ℕ) → led_by (n ∷ ns) (suc t) ≡ orders n (all_moves ns - 1) * led_by ns t
led_past zero ns t = refl
led_past (suc n) ns t = refl

-- the first thread, and the others
led_more : (n : ℕ) (ns : List ℕ) (t : ℕ) → led_below (n ∷ ns) (suc t) ≡ led_by (n ∷ ns) zero + orders n (all_moves ns - 1) * led_below ns t
led_more n ns zero = let e = mul-zero (orders n (all_moves ns - 1)) in omega arith
led_more n ns (suc t) =
    let rest = led_more n ns t in
    let past = led_past n ns t in
    let both : orders n (all_moves ns - 1) * (led_below ns t + led_by ns t) ≡ orders n (all_moves ns - 1) * led_below ns t + orders n (all_moves ns - 1) * led_by ns t = mul-add (orders n (all_moves ns - 1)) (led_below ns t) (led_by ns t) in
    omega arith

led_none : (ns : List ℕ) (t : ℕ) → all_moves ns ≡ 0 → led_by ns t ≡ 0
led_none [] t none = refl
led_none (zero ∷ ns) zero none = refl
led_none (suc n ∷ ns) zero none = absurd (omega arith)
led_none (n ∷ ns) (suc t) none =
    let rest : led_by ns t ≡ 0 = led_none ns t (omega arith) in
    led_past n ns t ∙ (ap (λ x. orders n (all_moves ns - 1) * x) rest ∙ mul-zero (orders n (all_moves ns - 1)))

below_none : (ns : List ℕ) (t : ℕ) → all_moves ns ≡ 0 → led_below ns t ≡ 0
below_none ns zero none = refl
below_none ns (suc t) none = let a = below_none ns t none in let b = led_none ns t none in omega arith

-- the first move is the first thread's, or another's
first_more : (n rest : ℕ) (ns : List ℕ) → all_moves ns ≡ suc rest → led_by (n ∷ ns) zero + orders n rest * interleavings ns ≡ orders n (suc rest) * interleavings ns
first_more zero rest ns is = let e = one-mul (interleavings ns) in omega arith
first_more (suc n) rest ns is = rw is (sym (add-mul' (orders n (suc rest)) (orders (suc n) rest) (interleavings ns)))

first_alone : (n : ℕ) (ns : List ℕ) → 0 < n → all_moves ns ≡ 0 → led_by (n ∷ ns) zero ≡ interleavings (n ∷ ns)
first_alone zero ns some none = absurd (omega arith)
first_alone (suc n) ns some none =
    let e : orders n (all_moves ns) ≡ orders (suc n) (all_moves ns) = rw none (orders_zero n ∙ sym (orders_zero (suc n))) in
    ap (λ x. x * interleavings ns) e

by_rest : (n rest : ℕ) (ns : List ℕ) → all_moves ns ≡ rest → 0 < n + rest → (0 < rest → led_below ns (length ns) ≡ interleavings ns) → led_below (n ∷ ns) (suc (length ns)) ≡ interleavings (n ∷ ns)
by_rest n zero ns is some all =
    let total = led_more n ns (length ns) in
    let none : orders n (all_moves ns - 1) * led_below ns (length ns) ≡ 0 = ap (λ x. orders n (all_moves ns - 1) * x) (below_none ns (length ns) is) ∙ mul-zero (orders n (all_moves ns - 1)) in
    let first = first_alone n ns (omega arith) is in
    omega arith
by_rest n (suc rest) ns is some all =
    let total = led_more n ns (length ns) in
    let less : all_moves ns - 1 ≡ rest = omega arith in
    let others : orders n (all_moves ns - 1) * led_below ns (length ns) ≡ orders n rest * interleavings ns = rw (less, all (omega arith)) refl in
    let first = first_more n rest ns is in
    let whole : orders n (suc rest) * interleavings ns ≡ orders n (all_moves ns) * interleavings ns = rw is refl in
    total ∙ (ap (λ x. led_by (n ∷ ns) zero + x) others ∙ (first ∙ whole))

-- some moves are left: one of them is first
pub led_all : (ns : List ℕ) → 0 < all_moves ns → led_below ns (length ns) ≡ interleavings ns
led_all [] some = absurd (omega arith)
led_all (n ∷ ns) some = by_rest n (all_moves ns) ns refl some (λ more. led_all ns more)

-- what is led by a thread: it has a move less
pub fewer_moves : (ns : List ℕ) (t n : ℕ) → get_or ns t 0 ≡ suc n → all_moves (slice_set ns t n) + 1 ≡ all_moves ns
fewer_moves [] t n is = absurd (omega arith)
fewer_moves (m ∷ ns) zero n is = omega arith
fewer_moves (m ∷ ns) (suc t) n is = let rest = fewer_moves ns t n is in omega arith

pub led_some : (ns : List ℕ) (t n : ℕ) → get_or ns t 0 ≡ suc n → led_by ns t ≡ interleavings (slice_set ns t n)
led_some [] t n is = absurd (omega arith)
led_some (zero ∷ ns) zero n is = absurd (omega arith)
led_some (suc m ∷ ns) zero n is = let e : m ≡ n = omega arith in rw e refl
led_some (m ∷ ns) (suc t) n is =
    let rest = led_some ns t n is in
    let fewer = fewer_moves ns t n is in
    let less : all_moves ns - 1 ≡ all_moves (slice_set ns t n) = omega arith in
    led_past m ns t ∙ rw (less, rest) refl

pub led_by_none : (ns : List ℕ) (t : ℕ) → get_or ns t 0 ≡ 0 → led_by ns t ≡ 0
led_by_none [] t is = refl
led_by_none (zero ∷ ns) zero is = refl
led_by_none (suc m ∷ ns) zero is = absurd (omega arith)
led_by_none (m ∷ ns) (suc t) is = led_past m ns t ∙ (ap (λ x. orders m (all_moves ns - 1) * x) (led_by_none ns t is) ∙ mul-zero (orders m (all_moves ns - 1)))

-- ---- tables

abbrev ones_of : ℕ → List ℕ
ones_of n = replicate n 1

pub row_first : (n : ℕ) (row : List ℕ) → row ≡ ones_of n → IsRow 0 row
row_first n row is b within = rw is (ones n b (rw is at within))
  where
    ones : (n b : ℕ) → b < length (ones_of n) → get_or (ones_of n) b 0 ≡ capped (orders 0 b)
    ones zero b within = absurd (omega arith)
    ones (suc n) zero within = omega arith
    ones (suc n) (suc b) within = ones n b (omega arith)

get_push : (xs : List ℕ) (y b : ℕ) → b < length xs → get_or (xs ++ y ∷ []) b 0 ≡ get_or xs b 0
get_push [] y b within = absurd (omega arith)
get_push (x ∷ xs) y zero within = refl
get_push (x ∷ xs) y (suc b) within = get_push xs y b (omega arith)

get_last : (xs : List ℕ) (y b : ℕ) → b ≡ length xs → get_or (xs ++ y ∷ []) b 0 ≡ y
get_last [] y b e = rw e refl
get_last (x ∷ xs) y zero e = absurd (omega arith)
get_last (x ∷ xs) y (suc b) e = get_last xs y b (omega arith)

pub row_push : (a : ℕ) (row : List ℕ) (y : ℕ) → IsRow a row → y ≡ capped (orders a (length row)) → IsRow a (row ++ y ∷ [])
row_push a row y old is b within =
    let more = length-append row (y ∷ []) in
    elim (cases_lt b (length row)) [
      | inl lt ↦ get_push row y b lt ∙ old b lt
      | inr le ↦ (let e : b ≡ length row = omega arith in get_last row y b e ∙ (is ∙ ap (λ x. capped (orders a x)) (sym e)))
    ]

-- the next number of a row
pub row_next : (a b number above next : ℕ) → number ≡ capped (orders (suc a) b) → above ≡ capped (orders a (suc b)) → next ≡ capped (number + above) → next ≡ capped (orders (suc a) (suc b))
row_next a b number above next x y z = let e : orders (suc a) (suc b) ≡ orders a (suc b) + orders (suc a) b = refl in omega arith

pub rows_at : (k i : ℕ) (rows : List (List ℕ)) → AreRows k rows → i < length rows → IsRow (k + i) (get_or rows i [])
rows_at k i [] are within = absurd (omega arith)
rows_at k zero (row ∷ rows) are within = let e : k + 0 ≡ k = omega arith in λ b lt. rw e (are.0 b lt)
rows_at k (suc i) (row ∷ rows) are within = let e : k + suc i ≡ suc k + i = omega arith in λ b lt. rw e (rows_at (suc k) i rows are.1 (omega arith) b lt)

pub rows_push : (k n : ℕ) (rows : List (List ℕ)) (row : List ℕ) → AreRows k rows → n ≡ k + length rows → IsRow n row → AreRows k (rows ++ row ∷ [])
rows_push k n [] row are e is = (let f : n ≡ k = omega arith in λ b lt. rw (← f) (is b lt), tt)
rows_push k n (first ∷ rows) row are e is = (are.0, rows_push (suc k) n rows row are.1 (omega arith) is)

-- one thread more
pub interleavings_more : (n : ℕ) (ns : List ℕ) (all of before number : ℕ) → all ≡ all_moves ns → of ≡ capped (orders n all) → before ≡ capped (interleavings ns) → number ≡ capped (of * before) → number ≡ capped (interleavings (n ∷ ns))
interleavings_more n ns all of before number a x y z =
    let x' : of ≡ capped (orders n (all_moves ns)) = rw (← a) x in
    z ∙ (ap (λ (w : ℕ). capped (w * before)) x' ∙ (ap (λ (w : ℕ). capped (capped (orders n (all_moves ns)) * w)) y ∙ capped_product (orders n (all_moves ns)) (interleavings ns)))

-- no thread makes more moves than all together, nor do those from one on
pub moves_from : (ns : List ℕ) (k : ℕ) → all_moves (drop k ns) ≤ all_moves ns
moves_from ns zero = omega arith
moves_from [] (suc k) = omega arith
moves_from (n ∷ ns) (suc k) = let rest = moves_from ns k in omega arith

pub moves_at : (ns : List ℕ) (k : ℕ) → k < length ns → get_or ns k 0 + all_moves (drop (suc k) ns) ≡ all_moves (drop k ns)
moves_at [] k within = absurd (omega arith)
moves_at (n ∷ ns) zero within = refl
moves_at (n ∷ ns) (suc k) within = moves_at ns k (omega arith)
