-- A name is text, and a word is a name by its form and its length.
use Rattle.std.proofs.Common.{◌≡◌, ℕ, zero, suc, ◌<◌, true, false, List, [], ◌∷◌, length, get_or, inl, inr, arith}
use Rattle.std.specs.Prelude.{◌==◌, ◌&&◌, ◌||◌, not, nat_le}
use Rattle.std.specs.List.{list_all}
use Rattle.std.specs.Str.{IsUtf8}
use Rattle.std.proofs.lemmas.Bool.{and_parts, or_cases, leb-true, eqb-true, ltb-false, not-false}
use Rattle.std.proofs.lemmas.Str.{IsUtf8-from_ascii}
use Rattle.lu_text.specs.Names.{is_name_start, is_name_part, has_name_form, is_long, IsName}

start_small : (b : ℕ) → is_name_start b ≡ true → b < 128
start_small b h =
    elim (or_cases (nat_le 65 b && nat_le b 90) (nat_le 97 b && nat_le b 122 || b == 95) h) [
      | inl upper ↦ omega (arith, leb-true b 90 (and_parts (nat_le 65 b) (nat_le b 90) upper).1)
      | inr other ↦ elim (or_cases (nat_le 97 b && nat_le b 122) (b == 95) other) [
        | inl lower ↦ omega (arith, leb-true b 122 (and_parts (nat_le 97 b) (nat_le b 122) lower).1)
        | inr line ↦ omega (arith, eqb-true b 95 line)
      ]
    ]

part_small : (b : ℕ) → is_name_part b ≡ true → b < 128
part_small b h =
    elim (or_cases (is_name_start b) (nat_le 48 b && nat_le b 57) h) [
      | inl start ↦ start_small b start
      | inr digit ↦ omega (arith, leb-true b 57 (and_parts (nat_le 48 b) (nat_le b 57) digit).1)
    ]

parts_small : (bs : List ℕ) → list_all is_name_part bs ≡ true → (i : ℕ) → get_or bs i 0 < 128
parts_small [] h i = omega arith
parts_small (b ∷ bs) h zero = part_small b (and_parts (is_name_part b) (list_all is_name_part bs) h).0
parts_small (b ∷ bs) h (suc i) = parts_small bs (and_parts (is_name_part b) (list_all is_name_part bs) h).1 i

-- a word with the form of a name is ASCII
pub name_ascii : (word : List ℕ) → has_name_form word ≡ true → (i : ℕ) → get_or word i 0 < 128
name_ascii [] h i = omega arith
name_ascii (b ∷ bs) h zero = start_small b (and_parts (is_name_start b) (list_all is_name_part bs) h).0
name_ascii (b ∷ bs) h (suc i) = parts_small bs (and_parts (is_name_start b) (list_all is_name_part bs) h).1 i

pub name_is_text : (word : List ℕ) → has_name_form word ≡ true → IsUtf8 word
name_is_text word h = IsUtf8-from_ascii word (name_ascii word h)

pub name_from : (word : List ℕ) → not (has_name_form word) ≡ false → is_long word ≡ false → IsName word
name_from word form short = (not-false (has_name_form word) form, ltb-false 32 (length word) short)
