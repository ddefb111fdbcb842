-- Escaped words are text alone.
use Rattle.std.proofs.Common.{◌≡◌, ℕ, ◌+◌, ◌/◌, ◌%◌, ◌≤◌, Bool, true, false, cond, ltb, not, ◌&&◌, ◌||◌, ◌==◌, if◌then◌else◌, List, [], ◌∷◌, chars, codes, refl, ◌∙◌, arith}
use Rattle.std.specs.Char.{encode_utf8}
use Rattle.std.specs.List.{flat_map, list_all}
use Rattle.std.proofs.lemmas.Bool.Decides.{nat_tests}
use Rattle.std.proofs.lemmas.List.Folds.{list_all-append}
use Rattle.lu_picture.specs.Escapes.{is_text}
use Rattle.lu_picture.specs.Shown.{escaped, letter_shown}

abbrev IsText : List ℕ → Type 0
IsText words = list_all is_text words ≡ true

and_true : (x y : Bool) → x ≡ true → y ≡ true → (x && y) ≡ true
and_true x y p q = rw (p, q) refl

text_more : (b : ℕ) (bs : List ℕ) → is_text b ≡ true → IsText bs → IsText (b ∷ bs)
text_more b bs p q = and_true (is_text b) (list_all is_text bs) p q

text_cond : (test : Bool) (a b : List ℕ) → IsText a → IsText b → IsText (cond test a b)
text_cond true a b p q = p
text_cond false a b p q = q

-- the bytes of a letter that is no ASCII
high_text : (a b : ℕ) → 128 ≤ a → is_text (a + b) ≡ true
high_text a b h = grind (arith, nat_tests)

encoded_text : (c : ℕ) → is_text c ≡ true → IsText (encode_utf8 c)
unfolding encode_utf8
encoded_text c p =
    let one = (128 + c % 64) ∷ [] in
    let two = (128 + c / 64 % 64) ∷ one in
    let three = (128 + c / 4096 % 64) ∷ two in
    let last : IsText one = text_more (128 + c % 64) [] (high_text 128 (c % 64) (omega arith)) refl in
    let second : IsText two = text_more (128 + c / 64 % 64) one (high_text 128 (c / 64 % 64) (omega arith)) last in
    let third : IsText three = text_more (128 + c / 4096 % 64) two (high_text 128 (c / 4096 % 64) (omega arith)) second in
    let wide = text_more (240 + c / 262144) three (high_text 240 (c / 262144) (omega arith)) third in
    let middle = text_more (224 + c / 4096) two (high_text 224 (c / 4096) (omega arith)) second in
    let narrow = text_more (192 + c / 64) one (high_text 192 (c / 64) (omega arith)) last in
    text_cond (ltb c 128) (c ∷ []) (cond (ltb c 2048) ((192 + c / 64) ∷ one) (cond (ltb c 65536) ((224 + c / 4096) ∷ two) ((240 + c / 262144) ∷ three))) (text_more c [] p refl) (text_cond (ltb c 2048) ((192 + c / 64) ∷ one) (cond (ltb c 65536) ((224 + c / 4096) ∷ two) ((240 + c / 262144) ∷ three)) narrow (text_cond (ltb c 65536) ((224 + c / 4096) ∷ two) ((240 + c / 262144) ∷ three) middle wide))

letter_text : (c : ℕ) → IsText (letter_shown c)
letter_text c = by_tests (c == 60) (c == 62) (c == 38) (λ p. encoded_text c p)
  where
    by_tests : (x y z : Bool) → (not (x || y) ≡ true → IsText (encode_utf8 c)) → IsText (if x then codes "&lt;" else if y then codes "&gt;" else if z then codes "&amp;" else encode_utf8 c)
    by_tests true y z f = refl
    by_tests false true z f = refl
    by_tests false false true f = refl
    by_tests false false false f = f refl

letters_text : (cs : List ℕ) → IsText (flat_map letter_shown cs)
letters_text [] = refl
letters_text (c ∷ cs) =
    list_all-append is_text (letter_shown c) (flat_map letter_shown cs) ∙ and_true (list_all is_text (letter_shown c)) (list_all is_text (flat_map letter_shown cs)) (letter_text c) (letters_text cs)

pub escaped_is_text : (words : List ℕ) → IsText (escaped words)
escaped_is_text words = letters_text (chars words)
