-- Lists of pieces that stand for sets: how often a piece is in one, the least of one, and one
-- without a piece.
use Rattle.std.specs.Prelude.{◌≡◌, ℕ, ◌+◌, ◌<◌, ◌≤◌, nat_eq, nat_lt, Bool, if◌then◌else◌, List, [], ◌∷◌, Option, Some, None, All, Contains}
use Rattle.std.specs.List.{list_any}

-- how often x is in the list, which is once or never where the list stands for a set
abbrev pub count_of : ℕ → List ℕ → ℕ
count_of x [] = 0
count_of x (y ∷ ys) = (if nat_eq x y then 1 else 0) + count_of x ys

-- whether x is in the list
abbrev pub is_in : ℕ → List ℕ → Bool
is_in x xs = list_any (λ y. nat_eq y x) xs

-- the list without the first x in it
abbrev pub without_first : ℕ → List ℕ → List ℕ
without_first x [] = []
without_first x (y ∷ ys) = if nat_eq x y then ys else y ∷ without_first x ys

-- how often x is among the numbers below n: once or never
abbrev pub once_below : ℕ → ℕ → ℕ
once_below x n = if nat_lt x n then 1 else 0

-- each number below n is in the list exactly once, and no other number is in it
abbrev pub HasEachOnce : ℕ → List ℕ → Type 0
HasEachOnce n xs = (x : ℕ) → count_of x xs ≡ once_below x n

-- the least of the list, or None where the list is empty
abbrev pub IsLeastPiece : List ℕ → Option ℕ → Type 0
IsLeastPiece xs None = xs ≡ []
IsLeastPiece xs (Some x) = Contains xs x × All (λ y. x ≤ y) xs

-- all of the list is above x, and where there is no x, the list is empty
abbrev pub AllAbove : Option ℕ → List ℕ → Type 0
AllAbove None xs = xs ≡ []
AllAbove (Some x) xs = All (λ y. x < y) xs
