-- Counts of pieces, and sums over a list of views of which one changes.
use Rattle.std.proofs.Common.{◌≡◌, ◌≢◌, ℕ, zero, suc, ◌+◌, ◌<◌, ◌≤◌, Bool, true, false, cond, eqb, List, [], ◌∷◌, ◌++◌, set, refl, sym, ap, ◌∙◌, subst, arith, eqb-true, eq-eqb, ne_eqb, length, get_or, replicate, All, Contains, sum_by, Option, None, Some, MatchOption, ◌||◌, true≢false}
use Rattle.std.specs.Prelude.{remove}
use Rattle.std.specs.List.{flat_map, HoldsAt, AllWithin}
use Rattle.std.proofs.lemmas.List.Sums.{sum_by-cons}
use mathlib.Core.Option.{some, some-ne-none, some-injective}
use lib.ListN.{get_elem?}
use Rattle.std.proofs.lemmas.Bool.Decides.{nat_tests}
use Rattle.lu_board.specs.declared.view.View.{View}
use Rattle.lu_board.specs.Pieces.{count_of, is_in, without_first, once_below}
use Rattle.lu_board.specs.Views.{pieces_of}

-- x is in the list, told by how often it is there
abbrev pub Has : List ℕ → ℕ → Type 0
Has xs x = 0 < count_of x xs

-- 1 where x is i, and else 0
abbrev pub one_at : ℕ → ℕ → ℕ
one_at x i = cond (eqb x i) 1 0

pub one_at-same : (x : ℕ) → one_at x x ≡ 1
one_at-same x = ap (λ b. cond b 1 0) (eq-eqb x x refl)

pub one_at-else : (x i : ℕ) → x ≢ i → one_at x i ≡ 0
one_at-else x i ne = ap (λ b. cond b 1 0) (ne_eqb x i ne)

pub count_of-without_first : (i x : ℕ) (xs : List ℕ) → Has xs i → count_of x (without_first i xs) + one_at x i ≡ count_of x xs
count_of-without_first i x [] h = absurd (omega arith)
count_of-without_first i x (y ∷ ys) h = at (eqb i y) refl (count_of-without_first i x ys)
  where
    at : (b : Bool) → eqb i y ≡ b → (Has ys i → count_of x (without_first i ys) + one_at x i ≡ count_of x ys) → count_of x (cond b ys (y ∷ without_first i ys)) + one_at x i ≡ one_at x y + count_of x ys
    at true e more = let same : one_at x i ≡ one_at x y = ap (one_at x) (eqb-true i y e) in omega arith
    at false e more = let none : one_at i y ≡ 0 = ap (λ b. cond b 1 0) e in let deeper = more (omega arith) in omega arith

pub count_of-append : (x : ℕ) (xs ys : List ℕ) → count_of x (xs ++ ys) ≡ count_of x xs + count_of x ys
count_of-append x [] ys = omega arith
count_of-append x (y ∷ xs) ys = let r = count_of-append x xs ys in omega arith

-- a list without numbers
pub count_of-empty : (xs : List ℕ) → xs ≡ [] → (x : ℕ) → count_of x xs ≡ 0
count_of-empty xs e x = ap (count_of x) e

pub contains-has : (xs : List ℕ) (x : ℕ) → Contains xs x → Has xs x
contains-has xs x h = at xs h.0 h.1 h.2
  where
    at : (ys : List ℕ) (k : ℕ) → k < length ys → get_or ys k x ≡ x → Has ys x
    at [] k h e = absurd (omega arith)
    at (y ∷ ys) zero h e = let one = ap (one_at x) e in let same = one_at-same x in omega arith
    at (y ∷ ys) (suc k) h e = let r = at ys k (omega arith) e in omega arith

pub has-contains : (xs : List ℕ) (x : ℕ) → Has xs x → Contains xs x
has-contains [] x h = absurd (omega arith)
has-contains (y ∷ ys) x h = at (eqb x y) refl (has-contains ys x)
  where
    at : (b : Bool) → eqb x y ≡ b → (Has ys x → Contains ys x) → Contains (y ∷ ys) x
    at true e more = (0, omega arith, sym (eqb-true x y e))
    at false e more = let none : one_at x y ≡ 0 = ap (λ b. cond b 1 0) e in let r = more (omega arith) in (suc r.0, omega (arith, r.1), r.2)

-- one more number is below n + 1 than below n
pub once_below-suc : (x n : ℕ) → once_below x n + one_at x n ≡ once_below x (n + 1)
once_below-suc x n = grind (arith, nat_tests)

pub once_below-zero : (x : ℕ) → once_below x 0 ≡ 0
once_below-zero x = grind (arith, nat_tests)

pub once_below-le : (x n : ℕ) → once_below x n ≤ 1
once_below-le x n = grind (arith, nat_tests)

pub once_below-lt : (x n : ℕ) → 0 < once_below x n → x < n
once_below-lt x n h = grind (arith, nat_tests)

-- the element at a place, by its index
pub all-at : {X : Type 0} (P : X → Type 0) (xs : List X) (k : ℕ) (x : X) → All P xs → get_elem? xs k ≡ some x → P x
all-at P [] k x a e = absurd (some-ne-none x (sym e))
all-at P (y ∷ ys) zero x a e = subst P (some-injective y x e) (a 0 x (omega arith))
all-at P (y ∷ ys) (suc k) x a e = all-at P ys k x (λ j d h. a (suc j) d (omega arith)) e

pub elem-at : {X : Type 0} (xs : List X) (k : ℕ) (d : X) → k < length xs → get_elem? xs k ≡ some (get_or xs k d)
elem-at [] k d h = absurd (omega arith)
elem-at (x ∷ xs) zero d h = refl
elem-at (x ∷ xs) (suc k) d h = elem-at xs k d (omega arith)

pub all-of : {X : Type 0} (P : X → Type 0) (xs : List X) → ((k : ℕ) (x : X) → get_elem? xs k ≡ some x → P x) → All P xs
all-of P xs f k d h = f k (get_or xs k d) (elem-at xs k d h)

module _ {X : Type 0} (f : X → ℕ) where
  pub sum_by-set : (xs : List X) (k : ℕ) (a b : X) → get_elem? xs k ≡ some a → sum_by f (set xs k b) + f a ≡ sum_by f xs + f b
  sum_by-set [] k a b e = absurd (some-ne-none a (sym e))
  sum_by-set (x ∷ xs) zero a b e = let is : f x ≡ f a = ap f (some-injective x a e) in omega (arith, sum_by-cons f x xs, sum_by-cons f b xs)
  sum_by-set (x ∷ xs) (suc k) a b e = let r = sum_by-set xs k a b e in omega (arith, r, sum_by-cons f x xs, sum_by-cons f x (set xs k b))

  pub sum_by-has : (xs : List X) (k : ℕ) (a : X) → get_elem? xs k ≡ some a → f a ≤ sum_by f xs
  sum_by-has [] k a e = absurd (some-ne-none a (sym e))
  sum_by-has (x ∷ xs) zero a e = let is : f x ≡ f a = ap f (some-injective x a e) in omega (arith, is, sum_by-cons f x xs)
  sum_by-has (x ∷ xs) (suc k) a e = let r = sum_by-has xs k a e in omega (arith, r, sum_by-cons f x xs)

  -- two of the list at different places
  pub sum_by-two : (xs : List X) (j k : ℕ) (a b : X) → get_elem? xs j ≡ some a → get_elem? xs k ≡ some b → j ≢ k → f a + f b ≤ sum_by f xs
  sum_by-two [] j k a b e h ne = absurd (some-ne-none a (sym e))
  sum_by-two (x ∷ xs) zero zero a b e h ne = absurd (ne refl)
  sum_by-two (x ∷ xs) zero (suc k) a b e h ne = let is : f x ≡ f a = ap f (some-injective x a e) in let r = sum_by-has xs k b h in omega (arith, is, r, sum_by-cons f x xs)
  sum_by-two (x ∷ xs) (suc j) zero a b e h ne = let is : f x ≡ f b = ap f (some-injective x b h) in let r = sum_by-has xs j a e in omega (arith, is, r, sum_by-cons f x xs)
  sum_by-two (x ∷ xs) (suc j) (suc k) a b e h ne = let r = sum_by-two xs j k a b e h (λ s. ne (ap suc s)) in omega (arith, r, sum_by-cons f x xs)

  -- a sum that is not 0 has an element that is not 0
  pub sum_by-some : (xs : List X) → 0 < sum_by f xs → (k : ℕ) × (a : X) × (get_elem? xs k ≡ some a) × (0 < f a)
  sum_by-some [] h = absurd (omega arith)
  sum_by-some (x ∷ xs) h = at (f x) refl (sum_by-some xs)
    where
      at : (n : ℕ) → f x ≡ n → (0 < sum_by f xs → (k : ℕ) × (a : X) × (get_elem? xs k ≡ some a) × (0 < f a)) → (k : ℕ) × (a : X) × (get_elem? (x ∷ xs) k ≡ some a) × (0 < f a)
      at zero e more = let r = more (let c = sum_by-cons f x xs in omega (arith, c, e, h)) in (suc r.0, r.1, r.2, r.3)
      at (suc n) e more = (0, x, refl, omega arith)

  pub sum_by-le-sum_by : (g : X → ℕ) (xs : List X) → ((k : ℕ) (a : X) → get_elem? xs k ≡ some a → f a ≤ g a) → sum_by f xs ≤ sum_by g xs
  sum_by-le-sum_by g [] h = omega arith
  sum_by-le-sum_by g (x ∷ xs) h = let here = h 0 x refl in let r = sum_by-le-sum_by g xs (λ k a e. h (suc k) a e) in omega (arith, here, r, sum_by-cons f x xs, sum_by-cons g x xs)

  pub sum_by-none : (xs : List X) → ((k : ℕ) (a : X) → get_elem? xs k ≡ some a → f a ≡ 0) → sum_by f xs ≡ 0
  sum_by-none [] h = refl
  sum_by-none (x ∷ xs) h = let here = h 0 x refl in let r = sum_by-none xs (λ k a e. h (suc k) a e) in omega (arith, here, r, sum_by-cons f x xs)

-- how often a piece is in the sets of all elements together
pub count_of-flat_map : {X : Type 0} (f : X → List ℕ) (x : ℕ) (xs : List X) → count_of x (flat_map f xs) ≡ sum_by (λ y. count_of x (f y)) xs
count_of-flat_map f x [] = refl
count_of-flat_map f x (y ∷ ys) = let r = count_of-flat_map f x ys in omega (arith, r, count_of-append x (f y) (flat_map f ys), sum_by-cons (λ z. count_of x (f z)) y ys)

-- how often x is in each set of a view
abbrev pub having : ℕ → View → ℕ
having x v = count_of x v.held + count_of x v.clean + count_of x v.found + count_of x v.skipped + count_of x v.given

pub count_of-pieces_of : (x : ℕ) (v : View) → count_of x (pieces_of v) ≡ having x v
count_of-pieces_of x v =
    let whole : count_of x (pieces_of v) ≡ count_of x (v.held ++ v.clean ++ v.found ++ v.skipped) + count_of x v.given = count_of-append x (v.held ++ v.clean ++ v.found ++ v.skipped) v.given in
    omega (
      arith,
      whole,
      count_of-append x (v.held ++ v.clean ++ v.found) v.skipped,
      count_of-append x (v.held ++ v.clean) v.found,
      count_of-append x v.held v.clean,
    )

pub count_of-all : (x : ℕ) (views : List View) → count_of x (flat_map pieces_of views) ≡ sum_by (having x) views
count_of-all x [] = refl
count_of-all x (v ∷ views) =
    let r = count_of-all x views in omega (arith, r, count_of-append x (pieces_of v) (flat_map pieces_of views), count_of-pieces_of x v, sum_by-cons (having x) v views)

-- the test of membership, and how often the element is there
pub is_in-has : (p : ℕ) (xs : List ℕ) → is_in p xs ≡ true → Has xs p
is_in-has p [] e = absurd (true≢false (sym e))
is_in-has p (x ∷ xs) e = at (eqb x p) refl e (is_in-has p xs)
  where
    at : (b : Bool) → eqb x p ≡ b → (b || is_in p xs) ≡ true → (is_in p xs ≡ true → Has xs p) → Has (x ∷ xs) p
    at true same e more = let is = ap (one_at p) (eqb-true x p same) in let one = one_at-same p in omega arith
    at false other e more = let r = more e in omega arith

-- the first p in the list is at i
pub out-here : (p : ℕ) (xs : List ℕ) (i : ℕ) → i < length xs → HoldsAt (λ y. y ≡ p) xs i → AllWithin (λ y. y ≢ p) xs 0 i → (is_in p xs ≡ true) × (remove xs i ≡ without_first p xs)
out-here p [] i h at none = absurd (omega arith)
out-here p (x ∷ xs) zero h at none = (
  ap (λ b. b || is_in p xs) (eq-eqb x p (at 0)),
  sym (ap (λ b. cond b xs (x ∷ without_first p xs)) (eq-eqb p x (sym (at 0)))),
)
out-here p (x ∷ xs) (suc i) h at none =
    let r = out-here p xs i (omega arith) at (λ k d a b. none (suc k) d (omega arith) (omega arith)) in
    let other : x ≢ p = none 0 0 (omega arith) (omega arith) in
    (ap (λ b. b || is_in p xs) (ne_eqb x p other) ∙ r.0, ap (λ l. x ∷ l) r.1 ∙ sym (ap (λ b. cond b xs (x ∷ without_first p xs)) (ne_eqb p x (λ e. other (sym e)))))

-- no p is in the list
pub out-nowhere : (p : ℕ) (xs : List ℕ) → AllWithin (λ y. y ≢ p) xs 0 (length xs) → (is_in p xs ≡ false) × (xs ≡ without_first p xs)
out-nowhere p [] none = (refl, refl)
out-nowhere p (x ∷ xs) none =
    let r = out-nowhere p xs (λ k d a b. none (suc k) d (omega arith) (omega arith)) in
    let other : x ≢ p = none 0 0 (omega arith) (omega arith) in
    (ap (λ b. b || is_in p xs) (ne_eqb x p other) ∙ r.0, ap (λ l. x ∷ l) r.1 ∙ sym (ap (λ b. cond b xs (x ∷ without_first p xs)) (ne_eqb p x (λ e. other (sym e)))))

-- what a search for p tells of taking it out
abbrev pub Out : ℕ → List ℕ → Option ℕ → Type 0
Out p xs None = (is_in p xs ≡ false) × (xs ≡ without_first p xs)
Out p xs (Some i) = (is_in p xs ≡ true) × (remove xs i ≡ without_first p xs)

pub out : (p : ℕ) (xs : List ℕ) (r : Option ℕ) → MatchOption r (AllWithin (λ y. y ≢ p) xs 0 (length xs)) (λ i. (i < length xs) × HoldsAt (λ y. y ≡ p) xs i × AllWithin (λ y. y ≢ p) xs 0 i) → Out p xs r
out p xs None none = out-nowhere p xs none
out p xs (Some i) h = out-here p xs i h.0 h.1 h.2

-- within a list its value does not hang on what stands for the rest
pub get-else : {X : Type 0} (xs : List X) (i : ℕ) (a b : X) → i < length xs → get_or xs i b ≡ get_or xs i a
get-else [] i a b h = absurd (omega arith)
get-else (x ∷ xs) zero a b h = refl
get-else (x ∷ xs) (suc i) a b h = get-else xs i a b (omega arith)

pub at-replicate : {X : Type 0} (k j : ℕ) (x v : X) → get_elem? (replicate k x) j ≡ some v → x ≡ v
at-replicate zero j x v e = absurd (some-ne-none v (sym e))
at-replicate (suc k) zero x v e = some-injective x v e
at-replicate (suc k) (suc j) x v e = at-replicate k j x v e
