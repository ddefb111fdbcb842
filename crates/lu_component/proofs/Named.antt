-- Where a name stands in a list of things whose names are distinct.
use Rattle.std.proofs.Common.{◌≡◌, ℕ, zero, suc, ◌+◌, ◌<◌, Bool, true, false, cond, List, [], ◌∷◌, ◌++◌, length, Some, None, refl, inl, inr, arith}
use Rattle.std.specs.Prelude.{not, nat_lt, is_some, map, slice_get, find}
use Rattle.std.specs.List.{position, position_or_len, AllByRecursion, IsDistinct}
use Rattle.std.specs.Str.{bytes_eq}
use Rattle.std.specs.Option.{unwrap_or, option_map}
use Rattle.std.proofs.lemmas.Bool.{cases_lt, le-ltb, lt-ltb, ltb-true}
use Rattle.lu_text.specs.Words.{Word}
use Rattle.lu_text.proofs.NumberText.{bytes_self}
use Rattle.lu_text.proofs.Written.{none_before}
use Rattle.lu_component.specs.Component.{AreDistinct}

-- ---- places

pub nowhere : {X : Type 0} (p : X → Bool) (xs : List X) → AllByRecursion (λ x. p x ≡ false) xs → position p xs ≡ None
nowhere p xs h = rw (none_before p xs h, le-ltb (length xs) (length xs) (omega arith)) refl

-- a thing is found where it has a place
pub is_found : {X : Type 0} (p : X → Bool) (xs : List X) → is_some (position p xs) ≡ is_some (find p xs)
is_found p [] = refl
is_found p (x ∷ xs) = go (p x) refl (is_found p xs)
  where
    one_more : (k n : ℕ) → is_some (cond (nat_lt k n) (Some k) None) ≡ is_some (find p xs)
        → is_some (cond (nat_lt (1 + k) (suc n)) (Some (1 + k)) None) ≡ is_some (find p xs)
    one_more k n r = elim (cases_lt k n) [
      | inl lt ↦ (let now : nat_lt (1 + k) (suc n) ≡ true = lt-ltb (1 + k) (suc n) (omega arith) in let then = rw (lt-ltb k n lt) at r in rw now then)
      | inr ge ↦ (let now : nat_lt (1 + k) (suc n) ≡ false = le-ltb (1 + k) (suc n) (omega arith) in let then = rw (le-ltb k n ge) at r in rw now then)
    ]

    go : (b : Bool) → p x ≡ b → is_some (position p xs) ≡ is_some (find p xs)
        → is_some (cond (nat_lt (cond (not b) (1 + position_or_len p xs) 0) (length (x ∷ xs))) (Some (cond (not b) (1 + position_or_len p xs) 0)) None) ≡ is_some (cond b (Some x) (find p xs))
    go true e rest = rw (lt-ltb 0 (length (x ∷ xs)) (omega arith)) refl
    go false e rest = one_more (position_or_len p xs) (length xs) rest

-- a place that is found is below the length
pub place_small : {X : Type 0} (p : X → Bool) (xs : List X) → is_some (position p xs) ≡ true → unwrap_or (position p xs) 0 < length xs
place_small p xs e = go (nat_lt (position_or_len p xs) (length xs)) refl e
  where
    go : (b : Bool) → nat_lt (position_or_len p xs) (length xs) ≡ b → is_some (cond b (Some (position_or_len p xs)) None) ≡ true → unwrap_or (cond b (Some (position_or_len p xs)) None) 0 < length xs
    go true t f = ltb-true (position_or_len p xs) (length xs) t
    go false t f = absurd cc

-- ---- distinct names

at_middle : {X : Type 0} (P : Word → Type 0) (f : X → Word) (xs ys : List X) (x : X) → AllByRecursion P (map f (xs ++ x ∷ ys)) → P (f x)
at_middle P f [] ys x h = h.0
at_middle P f (y ∷ xs) ys x h = at_middle P f xs ys x h.1

others : {X : Type 0} (f : X → Word) (done rest : List X) (x : X) → AreDistinct (map f (done ++ x ∷ rest)) → AllByRecursion (λ y. bytes_eq (f y) (f x) ≡ false) done
unfolding IsDistinct
others f [] rest x h = tt
others f (y ∷ done) rest x h = (at_middle (λ z. bytes_eq (f y) z ≡ false) f done rest x h.0, others f done rest x h.1)

-- none before it has its name
pub not_yet : {X : Type 0} (f : X → Word) (done rest : List X) (x : X) → AreDistinct (map f (done ++ x ∷ rest)) → position (λ y. bytes_eq (f y) (f x)) done ≡ None
not_yet f done rest x h = nowhere (λ y. bytes_eq (f y) (f x)) done (others f done rest x h)

-- the name of thing number k
abbrev pub name_at : {X : Type 0} → (X → Word) → List X → ℕ → Word
name_at f xs k = unwrap_or (option_map f (slice_get xs k)) []

each_at : {X : Type 0} (P : Word → Type 0) (f : X → Word) (xs : List X) (k : ℕ) → k < length xs → AllByRecursion P (map f xs) → P (name_at f xs k)
each_at P f [] k h all = absurd (omega arith)
each_at P f (x ∷ xs) zero h all = all.0
each_at P f (x ∷ xs) (suc k) h all = each_at P f xs k (omega arith) all.1

first_at : {X : Type 0} (f : X → Word) (xs : List X) (k : ℕ) → k < length xs → AreDistinct (map f xs) → position_or_len (λ y. bytes_eq (f y) (name_at f xs k)) xs ≡ k
unfolding IsDistinct
first_at f [] k h all = absurd (omega arith)
first_at f (x ∷ xs) zero h all = rw (bytes_self (f x)) refl
first_at f (x ∷ xs) (suc k) h all =
    rw (each_at (λ z. bytes_eq (f x) z ≡ false) f xs k (omega arith) all.0, first_at f xs k (omega arith) all.1) (omega arith)

-- among distinct names the name of thing number k stands at place k
pub place_at : {X : Type 0} (f : X → Word) (xs : List X) (k : ℕ) → k < length xs → AreDistinct (map f xs) → position (λ y. bytes_eq (f y) (name_at f xs k)) xs ≡ Some k
place_at f xs k h all = rw (first_at f xs k h all, lt-ltb k (length xs) h) refl

pub name_has : {X : Type 0} (P : Word → Type 0) (f : X → Word) (xs : List X) (k : ℕ) → k < length xs → AllByRecursion (λ x. P (f x)) xs → P (name_at f xs k)
name_has P f [] k h all = absurd (omega arith)
name_has P f (x ∷ xs) zero h all = all.0
name_has P f (x ∷ xs) (suc k) h all = name_has P f xs k (omega arith) all.1

-- ---- finding

pub find_first : {X : Type 0} (p : X → Bool) (xs ys : List X) (x : X) → find p xs ≡ Some x → find p (xs ++ ys) ≡ Some x
find_first p [] ys x e = absurd cc
find_first p (y ∷ xs) ys x e = go (p y) e (find_first p xs ys x)
  where
    go : (b : Bool) → cond b (Some y) (find p xs) ≡ Some x → (find p xs ≡ Some x → find p (xs ++ ys) ≡ Some x) → cond b (Some y) (find p (xs ++ ys)) ≡ Some x
    go true e rest = e
    go false e rest = rest e

pub find_later : {X : Type 0} (p : X → Bool) (xs ys : List X) → find p xs ≡ None → find p (xs ++ ys) ≡ find p ys
find_later p [] ys e = refl
find_later p (y ∷ xs) ys e = go (p y) e (find_later p xs ys)
  where
    go : (b : Bool) → cond b (Some y) (find p xs) ≡ None → (find p xs ≡ None → find p (xs ++ ys) ≡ find p ys) → cond b (Some y) (find p (xs ++ ys)) ≡ find p ys
    go true e rest = absurd cc
    go false e rest = rest e
