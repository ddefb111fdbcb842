-- Names, numbers and literals are words.
use Rattle.std.proofs.Common.{◌≡◌, ℕ, ◌+◌, ◌%◌, ◌^◌, ◌<◌, ◌≤◌, Bool, true, List, [], ◌∷◌, ◌++◌, length, Some, refl, arith, inl, inr}
use Rattle.std.specs.Prelude.{◌==◌, ◌&&◌, ◌||◌, nat_le}
use Rattle.std.specs.List.{list_all, AllByRecursion}
use Rattle.std.specs.Fmt.{decimal}
use Rattle.std.proofs.lemmas.Bool.{and_parts, and_from, or_cases, or_right, leb-true, le-leb, lt-ltb, eqb-true}
use Rattle.std.proofs.lemmas.Fmt.{decimal_by_steps, decimal_nonempty}
use Rattle.lu_text.specs.Names.{is_name_start, is_name_part, has_name_form}
use Rattle.lu_text.specs.Numbers.{value_in}
use Rattle.lu_text.specs.Words.{Word}
use Rattle.lu_text.proofs.NumberText.{number_again}
use Rattle.lu_text.proofs.Written.{each_append, each_weaker, IsWordByte, IsText}

-- ---- literals

abbrev pub is_word_byte : ℕ → Bool
is_word_byte b = nat_le 36 b && nat_le b 126

each_byte : (word : Word) → list_all is_word_byte word ≡ true → AllByRecursion IsWordByte word
each_byte [] e = tt
each_byte (b ∷ bs) e =
    let p = and_parts (is_word_byte b) (list_all is_word_byte bs) e in
    let q = and_parts (nat_le 36 b) (nat_le b 126) p.0 in
    ((leb-true 36 b q.0, leb-true b 126 q.1), each_byte bs p.1)

pub literal_text : (word : Word) → 0 < length word → list_all is_word_byte word ≡ true → IsText word
literal_text word some e = record { some = some; bytes = each_byte word e }

-- ---- names

start_byte : (b : ℕ) → is_name_start b ≡ true → IsWordByte b
start_byte b h =
    elim (or_cases (nat_le 65 b && nat_le b 90) (nat_le 97 b && nat_le b 122 || b == 95) h) [
      | inl upper ↦ (let p = and_parts (nat_le 65 b) (nat_le b 90) upper in (omega (arith, leb-true 65 b p.0), omega (arith, leb-true b 90 p.1)))
      | inr other ↦ elim (or_cases (nat_le 97 b && nat_le b 122) (b == 95) other) [
        | inl lower ↦ (let p = and_parts (nat_le 97 b) (nat_le b 122) lower in (omega (arith, leb-true 97 b p.0), omega (arith, leb-true b 122 p.1)))
        | inr line ↦ (omega (arith, eqb-true b 95 line), omega (arith, eqb-true b 95 line))
      ]
    ]

part_byte : (b : ℕ) → is_name_part b ≡ true → IsWordByte b
part_byte b h =
    elim (or_cases (is_name_start b) (nat_le 48 b && nat_le b 57) h) [
      | inl start ↦ start_byte b start
      | inr digit ↦ (let p = and_parts (nat_le 48 b) (nat_le b 57) digit in (omega (arith, leb-true 48 b p.0), omega (arith, leb-true b 57 p.1)))
    ]

part_bytes : (bs : List ℕ) → list_all is_name_part bs ≡ true → AllByRecursion IsWordByte bs
part_bytes [] h = tt
part_bytes (b ∷ bs) h = let p = and_parts (is_name_part b) (list_all is_name_part bs) h in (part_byte b p.0, part_bytes bs p.1)

pub name_text : (name : Word) → has_name_form name ≡ true → IsText name
name_text [] h = absurd cc
name_text (b ∷ bs) h =
    let p = and_parts (is_name_start b) (list_all is_name_part bs) h in
    record { some = omega arith; bytes = (start_byte b p.0, part_bytes bs p.1) }

-- ---- numbers

abbrev pub IsDigit : ℕ → Type 0
IsDigit b = (48 ≤ b) × (b ≤ 57)

pub digits_each : (n : ℕ) → n < 2 ^ 64 → AllByRecursion IsDigit (decimal n)
digits_each n h = decimal_by_steps (λ k ds. AllByRecursion IsDigit ds) one more n h
  where
    one : (k : ℕ) → k < 10 → AllByRecursion IsDigit ((48 + k) ∷ [])
    one k lt = ((omega arith, omega arith), tt)

    more : (k : ℕ) (ds : List ℕ) → 10 ≤ k → AllByRecursion IsDigit ds → AllByRecursion IsDigit (ds ++ ((48 + k % 10) ∷ []))
    more k ds ge all = each_append IsDigit ds ((48 + k % 10) ∷ []) all ((omega arith, omega arith), tt)

pub number_text : (n : ℕ) → n < 2 ^ 64 → IsText (decimal n)
number_text n h = record { some = decimal_nonempty n h; bytes = each_weaker IsDigit IsWordByte (λ b d. (omega arith, omega arith)) (decimal n) (digits_each n h) }

digit_part : (b : ℕ) → IsDigit b → is_name_part b ≡ true
digit_part b d = or_right (is_name_start b) (nat_le 48 b && nat_le b 57) (and_from (nat_le 48 b) (nat_le b 57) (le-leb 48 b d.0) (le-leb b 57 d.1))

-- digits may stand in a name
pub digit_parts : (bs : List ℕ) → AllByRecursion IsDigit bs → list_all is_name_part bs ≡ true
digit_parts [] h = refl
digit_parts (b ∷ bs) h = rw (digit_part b h.0, digit_parts bs h.1) refl

pub value_again : (n : ℕ) → n < 2 ^ 32 → value_in (decimal n) ≡ Some n
value_again n h = rw (number_again n (omega arith), lt-ltb n (2 ^ 32) h) refl
