-- Words that need no escape.
use Rattle.std.proofs.Common.{◌≡◌, ℕ, zero, suc, ◌/◌, ◌%◌, ◌<◌, Bool, true, false, ◌&&◌, ◌==◌, if◌then◌else◌, List, [], ◌∷◌, ◌++◌, refl, ◌∙◌, arith}
use Rattle.std.specs.Fmt.{decimal, digit_glyph, digits, digits_onto}
use Rattle.std.specs.List.{flat_map, join_with_byte, list_all}
use Rattle.std.proofs.lemmas.Bool.Decides.{nat_tests}
use Rattle.std.proofs.lemmas.List.Folds.{list_all-append}
use Rattle.lu_text.specs.Names.{IsName, is_name_part, is_name_start}
use Rattle.lu_picture.specs.Escapes.{IsPlain, is_plain}

and_true : (x y : Bool) → x ≡ true → y ≡ true → (x && y) ≡ true
and_true x y p q = rw (p, q) refl

and_left : (x y : Bool) → (x && y) ≡ true → x ≡ true
and_left true y h = refl
and_left false y h = h

and_right : (x y : Bool) → (x && y) ≡ true → y ≡ true
and_right true y h = h
and_right false y h = absurd cc

pub plain_append : (a b : List ℕ) → IsPlain a → IsPlain b → IsPlain (a ++ b)
plain_append a b p q =
    list_all-append is_plain a b ∙ and_true (list_all is_plain a) (list_all is_plain b) p q

pub plain_three : (a b c : List ℕ) → IsPlain a → IsPlain b → IsPlain c → IsPlain (a ++ b ++ c)
plain_three a b c p q r = plain_append (a ++ b) c (plain_append a b p q) r

pub plain_four : (a b c d : List ℕ) → IsPlain a → IsPlain b → IsPlain c → IsPlain d → IsPlain (a ++ b ++ c ++ d)
plain_four a b c d p q r s = plain_append (a ++ b ++ c) d (plain_three a b c p q r) s

pub plain_five : (a b c d e : List ℕ) → IsPlain a → IsPlain b → IsPlain c → IsPlain d → IsPlain e → IsPlain (a ++ b ++ c ++ d ++ e)
plain_five a b c d e p q r s t = plain_append (a ++ b ++ c ++ d) e (plain_four a b c d p q r s) t

plain_more : (b : ℕ) (bs : List ℕ) → is_plain b ≡ true → IsPlain bs → IsPlain (b ∷ bs)
plain_more b bs p q = and_true (is_plain b) (list_all is_plain bs) p q

-- the words where the test holds, and else others
pub plain_if : (test : Bool) (a b : List ℕ) → IsPlain a → IsPlain b → IsPlain (if test then a else b)
plain_if true a b p q = p
plain_if false a b p q = q

-- ---- numbers

glyph_plain : (d : ℕ) → d < 10 → is_plain (digit_glyph false d) ≡ true
glyph_plain d small = grind (arith, nat_tests)

digits_plain : (k n : ℕ) (after : List ℕ) → IsPlain after → IsPlain (digits_onto k 10 false n after)
digits_plain zero n after p = p
digits_plain (suc k) n after p =
    let more = digit_glyph false (n % 10) ∷ after in
    let here : IsPlain more = plain_more (digit_glyph false (n % 10)) after (glyph_plain (n % 10) (omega arith)) p in
    plain_if (n / 10 == 0) more (digits_onto k 10 false (n / 10) more) here (digits_plain k (n / 10) more here)

pub plain_decimal : (n : ℕ) → IsPlain (decimal n)
unfolding digits
plain_decimal n = digits_plain 64 n [] refl

-- ---- names

part_plain : (b : ℕ) → is_name_part b ≡ true → is_plain b ≡ true
part_plain b h = grind (arith, nat_tests)

start_plain : (b : ℕ) → is_name_start b ≡ true → is_plain b ≡ true
start_plain b h = grind (arith, nat_tests)

parts_plain : (bs : List ℕ) → list_all is_name_part bs ≡ true → IsPlain bs
parts_plain [] h = refl
parts_plain (b ∷ bs) h =
    plain_more b bs (part_plain b (and_left (is_name_part b) (list_all is_name_part bs) h)) (parts_plain bs (and_right (is_name_part b) (list_all is_name_part bs) h))

pub plain_name : (word : List ℕ) → IsName word → IsPlain word
plain_name [] h = refl
plain_name (b ∷ bs) h =
    plain_more b bs (start_plain b (and_left (is_name_start b) (list_all is_name_part bs) h.0)) (parts_plain bs (and_right (is_name_start b) (list_all is_name_part bs) h.0))

-- ---- words with blanks between them

abbrev pub ArePlain : List (List ℕ) → Type 0
ArePlain [] = Unit {0}
ArePlain (word ∷ words) = IsPlain word × ArePlain words

pub plain_joined : (words : List (List ℕ)) → ArePlain words → IsPlain (join_with_byte 32 words)
plain_joined [] p = refl
plain_joined (word ∷ []) p = p.0
plain_joined (word ∷ other ∷ words) p =
    plain_append word (32 ∷ join_with_byte 32 (other ∷ words)) p.0 (plain_joined (other ∷ words) p.1)

pub plain_each : {X : Type 0} (f : X → List ℕ) → ((x : X) → IsPlain (f x)) → (xs : List X) → IsPlain (flat_map f xs)
plain_each f p [] = refl
plain_each f p (x ∷ xs) = plain_append (f x) (flat_map f xs) (p x) (plain_each f p xs)
