-- Names: a letter of ASCII or `_`, followed by letters, digits or `_`, 1 to 32 bytes in all.
use Rattle.std.specs.Prelude.{◌≡◌, ℕ, ◌≤◌, Bool, true, false, List, [], ◌∷◌, length, ◌==◌, ◌&&◌, ◌||◌, nat_le, nat_lt}
use Rattle.std.specs.List.{list_all}

-- a letter or `_`
abbrev pub is_name_start : ℕ → Bool
is_name_start b = nat_le 65 b && nat_le b 90 || (nat_le 97 b && nat_le b 122 || b == 95)

-- a letter, a digit or `_`
abbrev pub is_name_part : ℕ → Bool
is_name_part b = is_name_start b || (nat_le 48 b && nat_le b 57)

-- the form of a name, of any length
abbrev pub has_name_form : List ℕ → Bool
has_name_form [] = false
has_name_form (b ∷ bs) = is_name_start b && list_all is_name_part bs

-- longer than a name may be
abbrev pub is_long : List ℕ → Bool
is_long word = nat_lt 32 (length word)

abbrev pub IsName : List ℕ → Type 0
IsName word = (has_name_form word ≡ true) × (length word ≤ 32)
