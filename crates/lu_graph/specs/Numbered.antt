-- Values with numbers, in tables that have each different one once.
use Rattle.std.specs.Prelude.{◌≡◌, ℕ, zero, suc, ◌+◌, Bool, List, Option, Some, None, position, slice_get}
use Rattle.std.specs.Global.{Vec}
use lib.Pointwise.{pointwise}
use Rattle.lu_graph.specs.Discovering.{Extends}

-- n is the number of the first of the table that passes the test, from 1
abbrev pub IsNumber : {A : Type 0} → (A → Bool) → List A → ℕ → Type 0
IsNumber test table n = (index : ℕ) × (position test table ≡ Some index) × (n ≡ index + 1)

-- so it is of the table as it has become, the old one with more after it or nothing
pub record IsNumbered {A : Type 0} (test : A → Bool) (old new : List A) (n : ℕ) : Type 0 where
  pub number : IsNumber test new n
  pub grows : Extends old new

-- whether it is this list
abbrev pub is_list : {A : Type 0} → (A → A → Bool) → List A → Vec A → Bool
is_list eq xs v = pointwise eq xs v.items

-- what has this number, if anything has
abbrev pub with_number : {A : Type 0} → List A → ℕ → Option A
with_number table zero = None
with_number table (suc index) = slice_get table index
