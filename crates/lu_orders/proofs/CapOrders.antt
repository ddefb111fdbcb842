-- The numbers of orders within caps, thread by thread.
use Rattle.std.proofs.Common.{◌≡◌, ℕ, zero, suc, ◌+◌, ◌-◌, ◌*◌, ◌<◌, ◌≤◌, min, List, [], ◌∷◌, get_or, slice_set, replicate, drop, length, refl, sym, ◌∙◌, ap, inl, inr, arith, add-one}
use Rattle.std.proofs.Math.Nat.{one-mul}
use Rattle.std.proofs.lemmas.Bool.{cases_lt}
use Rattle.lu_machine.specs.Sums.{capped}
use Rattle.lu_orders.specs.Orders.{AreOrderNumbers, first_below, orders_with_first, orders, orders_within, with_one}
use Rattle.lu_orders.proofs.OrderLaws.{add-mul', capped_product, orders_zero}

-- sums, zeros and equals of rows
with_sum : (f g h : ℕ → ℕ) → ((i : ℕ) → h i ≡ f i + g i) → (n left : ℕ) → with_one h n left ≡ with_one f n left + with_one g n left
with_sum f g h is n zero = is 0
with_sum f g h is zero (suc left) = is (suc left)
with_sum f g h is (suc n) (suc left) =
    let a = with_sum f g h is n left in
    let b = with_sum (λ i. f (suc i)) (λ i. g (suc i)) (λ i. h (suc i)) (λ i. is (suc i)) (suc n) left in
    omega arith

with_none : (f : ℕ → ℕ) → ((i : ℕ) → f i ≡ 0) → (n left : ℕ) → with_one f n left ≡ 0
with_none f is n zero = is 0
with_none f is zero (suc left) = is (suc left)
with_none f is (suc n) (suc left) =
    let a = with_none f is n left in
    let b = with_none (λ i. f (suc i)) (λ i. is (suc i)) (suc n) left in
    omega arith

pub with_same : (f g : ℕ → ℕ) → ((i : ℕ) → f i ≡ g i) → (n left : ℕ) → with_one f n left ≡ with_one g n left
with_same f g is n zero = is 0
with_same f g is zero (suc left) = is (suc left)
with_same f g is (suc n) (suc left) =
    let a = with_same f g is n left in
    let b = with_same (λ i. f (suc i)) (λ i. g (suc i)) (λ i. is (suc i)) (suc n) left in
    omega arith

with_no_move : (f : ℕ → ℕ) (left : ℕ) → with_one f zero left ≡ f left
with_no_move f zero = refl
with_no_move f (suc left) = refl

-- the first thread, and the others
first_past : (rest : List ℕ → ℕ) (n : ℕ) (caps : List ℕ) (t m : ℕ) → orders_with_first rest (n ∷ caps) (suc t) m ≡ orders_with_first (λ c. rest (n ∷ c)) caps t m
first_past rest n caps t zero = refl
first_past rest n caps t (suc m) = refl

below_past : (rest : List ℕ → ℕ) (n : ℕ) (caps : List ℕ) (k : ℕ) → first_below rest (n ∷ caps) (suc k) ≡ orders_with_first rest (n ∷ caps) zero n + first_below (λ c. rest (n ∷ c)) caps k
below_past rest n caps zero = omega arith
below_past rest n caps (suc k) =
    let a = below_past rest n caps k in
    let b = first_past rest n caps k (get_or caps k 0) in
    omega arith

-- what is led by another thread
of_with : (rest : List ℕ → ℕ) (n left : ℕ) → ((c : List ℕ) → rest c ≡ with_one (λ i. orders_within i c) n left) → (caps : List ℕ) (t m : ℕ) → orders_with_first rest caps t m ≡ with_one (λ i. orders_with_first (orders_within i) caps t m) n left
of_with rest n left is caps t zero = sym (with_none (λ i. 0) (λ i. refl) n left)
of_with rest n left is caps t (suc m) = is (slice_set caps t m)

below_with : (rest : List ℕ → ℕ) (n left : ℕ) → ((c : List ℕ) → rest c ≡ with_one (λ i. orders_within i c) n left) → (caps : List ℕ) (k : ℕ) → first_below rest caps k ≡ with_one (λ i. first_below (orders_within i) caps k) n left
below_with rest n left is caps zero = sym (with_none (λ i. 0) (λ i. refl) n left)
below_with rest n left is caps (suc k) =
    let a = below_with rest n left is caps k in
    let b = of_with rest n left is caps k (get_or caps k 0) in
    let c = with_sum (λ i. first_below (orders_within i) caps k) (λ i. orders_with_first (orders_within i) caps k (get_or caps k 0)) (λ i. first_below (orders_within i) caps (suc k)) (λ i. refl) n left in
    omega arith

-- one thread more
pub within_one : (left n : ℕ) (caps : List ℕ) → orders_within left (n ∷ caps) ≡ with_one (λ i. orders_within i caps) n left
within_one zero n caps = refl
within_one (suc left) zero caps =
    let past = below_past (orders_within left) zero caps (length caps) in
    let others = below_with (λ c. orders_within left (zero ∷ c)) zero left (λ c. within_one left zero c) caps (length caps) in
    let whole = with_no_move (λ i. orders_within (suc i) caps) left in
    let none : orders_with_first (orders_within left) (zero ∷ caps) zero zero + first_below (λ c. orders_within left (zero ∷ c)) caps (length caps) ≡ first_below (λ c. orders_within left (zero ∷ c)) caps (length caps) = omega arith in
    past ∙ (none ∙ (others ∙ whole))
within_one (suc left) (suc n) caps =
    let past = below_past (orders_within left) (suc n) caps (length caps) in
    let own = within_one left n caps in
    let others = below_with (λ c. orders_within left (suc n ∷ c)) (suc n) left (λ c. within_one left (suc n) c) caps (length caps) in
    past ∙ (ap (λ x. x + first_below (λ c. orders_within left (suc n ∷ c)) caps (length caps)) own ∙ ap (λ x. with_one (λ i. orders_within i caps) n left + x) others)

-- the orders in which the one thread makes j of the moves, and those in which it makes fewer than j
abbrev pub term : (ℕ → ℕ) → ℕ → ℕ → ℕ
term row left j = orders j (left - j) * row (left - j)

abbrev pub terms : (ℕ → ℕ) → ℕ → ℕ → ℕ
terms row left zero = 0
terms row left (suc j) = terms row left j + term row left j

term_at : (row : ℕ → ℕ) (left j r : ℕ) → j + r ≡ left → term row left j ≡ orders j r * row r
term_at row left j r is = let e : left - j ≡ r = omega arith in rw e refl

-- one move more
term_grows : (row : ℕ → ℕ) (left k : ℕ) → suc k ≤ left → term row (suc left) (suc k) ≡ term row left k + term (λ i. row (suc i)) left (suc k)
term_grows row left k le =
    let r = left - suc k in
    let a = term_at row (suc left) (suc k) (suc r) (omega arith) in
    let b = term_at row left k (suc r) (omega arith) in
    let c = term_at (λ i. row (suc i)) left (suc k) r (omega arith) in
    let d : (orders k (suc r) + orders (suc k) r) * row (suc r) ≡ orders k (suc r) * row (suc r) + orders (suc k) r * row (suc r) = add-mul' (orders k (suc r)) (orders (suc k) r) (row (suc r)) in
    a ∙ (d ∙ (ap (λ x. x + orders (suc k) r * row (suc r)) (sym b) ∙ ap (λ x. term row left k + x) (sym c)))

first_term : (row : ℕ → ℕ) (left : ℕ) → term row left 0 ≡ row left
first_term row left = term_at row left 0 left (omega arith) ∙ one-mul (row left)

last_term : (row : ℕ → ℕ) (left : ℕ) → term row left left ≡ row 0
last_term row left = term_at row left left 0 (omega arith) ∙ (ap (λ x. x * row 0) (orders_zero left) ∙ one-mul (row 0))

terms_grow : (row : ℕ → ℕ) (left k : ℕ) → k ≤ left → terms row (suc left) (suc k) ≡ terms row left k + terms (λ i. row (suc i)) left (suc k)
terms_grow row left zero le =
    let a = first_term row (suc left) in
    let b = first_term (λ i. row (suc i)) left in
    omega arith
terms_grow row left (suc k) le =
    let a = terms_grow row left k (omega arith) in
    let b = term_grows row left k le in
    omega arith

terms_all : (row : ℕ → ℕ) (left : ℕ) → terms row (suc left) (suc (suc left)) ≡ terms row left (suc left) + terms (λ i. row (suc i)) left (suc left)
terms_all row left =
    let a = terms_grow row left left (omega arith) in
    let b = last_term row (suc left) in
    let c = last_term row left in
    omega arith

-- by the number of the one thread's moves
pub with_terms : (row : ℕ → ℕ) (n left : ℕ) → with_one row n left ≡ terms row left (suc (min n left))
with_terms row n zero =
    let e : suc (min n zero) ≡ suc zero = omega arith in
    let a = first_term row zero in
    sym (ap (terms row zero) e ∙ (omega arith))
with_terms row zero (suc left) =
    let e : suc (min zero (suc left)) ≡ suc zero = omega arith in
    let a = first_term row (suc left) in
    sym (ap (terms row (suc left)) e ∙ (omega arith))
with_terms row (suc n) (suc left) =
    let a = with_terms row n left in
    let b = with_terms (λ i. row (suc i)) (suc n) left in
    elim (cases_lt n left) [
      | inl few ↦
          (let x : suc (min (suc n) (suc left)) ≡ suc (suc n) = omega arith in
          let y : suc (min n left) ≡ suc n = omega arith in
          let z : suc (min (suc n) left) ≡ suc (suc n) = omega arith in
          let p = a ∙ ap (terms row left) y in
          let q = b ∙ ap (terms (λ i. row (suc i)) left) z in
          let r = terms_grow row left (suc n) (omega arith) in
          let s = ap (terms row (suc left)) x in
          omega arith)
      | inr many ↦
          (let x : suc (min (suc n) (suc left)) ≡ suc (suc left) = omega arith in
          let y : suc (min n left) ≡ suc left = omega arith in
          let z : suc (min (suc n) left) ≡ suc left = omega arith in
          let p = a ∙ ap (terms row left) y in
          let q = b ∙ ap (terms (λ i. row (suc i)) left) z in
          let r = terms_all row left in
          let s = ap (terms row (suc left)) x in
          omega arith)
    ]

-- one term more
pub terms_more : (row : ℕ → ℕ) (left j number of others next : ℕ) → number ≡ capped (terms row left j) → of ≡ capped (orders j (left - j)) → others ≡ capped (row (left - j)) → next ≡ capped (number + capped (of * others)) → next ≡ capped (terms row left (j + 1))
terms_more row left j number of others next a b c is =
    let product : capped (of * others) ≡ capped (term row left j) = rw (b, c) (capped_product (orders j (left - j)) (row (left - j))) in
    let e : terms row left (j + 1) ≡ terms row left j + term row left j = rw (add-one j) refl in
    omega arith

pub terms_end : (row : ℕ → ℕ) (n left number : ℕ) → number ≡ capped (terms row left (min n left + 1)) → number ≡ capped (with_one row n left)
terms_end row n left number is =
    let e = with_terms row n left in
    is ∙ ap capped (ap (terms row left) (add-one (min n left)) ∙ sym e)

-- without a thread
abbrev pub zeros_of : ℕ → List ℕ
zeros_of n = replicate n 0

no_move : (n i : ℕ) → get_or (zeros_of n) i 0 ≡ 0
no_move zero i = refl
no_move (suc n) zero = refl
no_move (suc n) (suc i) = no_move n i

drop_all : (xs : List ℕ) → drop (length xs) xs ≡ []
drop_all [] = refl
drop_all (x ∷ xs) = drop_all xs

no_thread : (n : ℕ) (i : ℕ) → get_or (slice_set (zeros_of (suc n)) 0 1) i 0 ≡ capped (orders_within i [])
no_thread n zero = omega arith
no_thread n (suc i) = let e = no_move n i in omega arith

pub numbers_first : (n left : ℕ) (caps row : List ℕ) → row ≡ slice_set (zeros_of (suc n)) 0 1 → AreOrderNumbers (λ i. orders_within i (drop (length caps - 0) caps)) left row
numbers_first n left caps row is i le =
    let whole : length caps - 0 ≡ length caps = omega arith in
    rw (is, whole, drop_all caps) (no_thread n i)

pub drop_at : (xs : List ℕ) (k : ℕ) → k < length xs → drop k xs ≡ get_or xs k 0 ∷ drop (suc k) xs
drop_at [] k within = absurd (omega arith)
drop_at (x ∷ xs) zero within = refl
drop_at (x ∷ xs) (suc k) within = drop_at xs k (omega arith)

pub numbers_same : (f g : ℕ → ℕ) → ((i : ℕ) → f i ≡ g i) → (left : ℕ) (numbers : List ℕ) → AreOrderNumbers f left numbers → AreOrderNumbers g left numbers
numbers_same f g is left numbers are i le = are i le ∙ ap capped (is i)

-- one thread more, from the last to the first
pub numbers_more : (caps : List ℕ) (b left : ℕ) (new : List ℕ) → b < length caps → AreOrderNumbers (with_one (λ i. orders_within i (drop (length caps - b) caps)) (get_or caps (length caps - 1 - b) 0)) left new → AreOrderNumbers (λ i. orders_within i (drop (length caps - (b + 1)) caps)) left new
numbers_more caps b left new within are i le =
    let k = length caps - (b + 1) in
    let here : length caps - 1 - b ≡ k = omega arith in
    let next : suc k ≡ length caps - b = omega arith in
    let first : drop k caps ≡ get_or caps k 0 ∷ drop (length caps - b) caps = drop_at caps k (omega arith) ∙ ap (λ x. get_or caps k 0 ∷ drop x caps) next in
    let e : orders_within i (drop k caps) ≡ with_one (λ j. orders_within j (drop (length caps - b) caps)) (get_or caps k 0) i = ap (orders_within i) first ∙ within_one i (get_or caps k 0) (drop (length caps - b) caps) in
    rw (e, ← here) (are i le)
