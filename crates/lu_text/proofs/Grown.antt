-- A number only grows as its digits are read.
use Rattle.std.proofs.Common.{◌≡◌, Bool, ℕ, ◌+◌, ◌*◌, ◌-◌, ◌<◌, ◌≤◌, List, [], ◌∷◌, None, true, false, refl, ap, arith}
use Rattle.std.specs.Prelude.{◌&&◌, nat_lt}
use Rattle.std.specs.List.{list_all}
use Rattle.std.specs.Str.{all_ascii_digits}
use Rattle.std.specs.Char.{is_ascii_digit}
use Rattle.std.proofs.lemmas.Bool.{le-ltb}
use Rattle.lu_text.specs.Numbers.{read_on, is_number, number_in, below}

grown : (n : ℕ) (digits : List ℕ) → n ≤ read_on n digits
grown n [] = omega arith
grown n (c ∷ cs) = omega (arith, grown (10 * n + (c - 48)) cs)

-- what is too large after some digits is too large after all
pub too_large : (word digits : List ℕ) (n most : ℕ) → is_number word ≡ true → read_on n digits ≡ read_on 0 word → most < n → None ≡ below (most + 1) (number_in word)
too_large word digits n most is same large =
    let f : nat_lt (read_on 0 word) (most + 1) ≡ false = le-ltb (read_on 0 word) (most + 1) (omega (arith, grown n digits)) in
    rw (is, f) refl

pub digit_each : (bytes : List ℕ) → list_all is_ascii_digit bytes ≡ all_ascii_digits bytes
digit_each [] = refl
digit_each (c ∷ cs) = ap (λ (rest : Bool). is_ascii_digit c && rest) (digit_each cs)
