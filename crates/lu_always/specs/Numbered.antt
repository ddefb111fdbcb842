-- Values with numbers, in tables that have each different one once.
use Rattle.std.specs.Prelude.{◌≡◌, ℕ, zero, suc, ◌++◌, Bool, true, List, Option, Some, None, slice_get}
use Rattle.std.specs.Global.{Vec}
use lib.Pointwise.{pointwise}

-- what has this number, if anything has: numbers are counted from 1
abbrev pub with_number : {A : Type 0} → List A → ℕ → Option A
with_number table zero = None
with_number table (suc index) = slice_get table index

-- n is the number of one that passes the test
abbrev pub IsNumber : {A : Type 0} → (A → Bool) → List A → ℕ → Type 0
IsNumber {A} test table n = (one : A) × (with_number table n ≡ Some one) × (test one ≡ true)

-- the new table is the old one, with more after it or nothing
abbrev pub Extends : {A : Type 0} → List A → List A → Type 0
Extends {A} old new = (more : List A) × (new ≡ old ++ more)

-- whether it is this list
abbrev pub is_list : {A : Type 0} → (A → A → Bool) → List A → Vec A → Bool
is_list eq xs v = pointwise eq xs v.items
