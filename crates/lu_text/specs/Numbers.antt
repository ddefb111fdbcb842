-- Numbers as they are written: `0`, or a digit from 1 to 9 and more digits.
use Rattle.std.specs.Prelude.{ℕ, ◌+◌, ◌*◌, ◌-◌, ◌^◌, Bool, false, List, [], ◌∷◌, length, Option, Some, None, ◌==◌, ◌&&◌, ◌||◌, not, nat_lt, if◌then◌else◌}
use Rattle.std.specs.Str.{all_ascii_digits}

-- the number that the digits stand for, after a number that was read before
abbrev pub read_on : ℕ → List ℕ → ℕ
read_on n [] = n
read_on n (c ∷ cs) = read_on (10 * n + (c - 48)) cs

abbrev pub is_number : List ℕ → Bool
is_number [] = false
is_number (c ∷ cs) = all_ascii_digits (c ∷ cs) && (not (c == 48) || (length cs == 0))

-- the number that a word is, where it is one
abbrev pub number_in : List ℕ → Option ℕ
number_in word = if is_number word then Some (read_on 0 word) else None

abbrev pub below : ℕ → Option ℕ → Option ℕ
below limit None = None
below limit (Some n) = if nat_lt n limit then Some n else None

-- a number of at most 4294967295
abbrev pub value_in : List ℕ → Option ℕ
value_in word = below (2 ^ 32) (number_in word)
