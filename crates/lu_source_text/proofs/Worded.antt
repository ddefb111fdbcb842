-- Words, one after the other.
use Rattle.std.proofs.Common.{◌≡◌, ℕ, zero, suc, ◌+◌, ◌≤◌, Bool, true, false, if◌then◌else◌, List, [], ◌∷◌, ◌++◌, length, get_or, take, drop, refl, sym, ap, ◌∙◌, arith, append_assoc, length-drop}
use Rattle.std.specs.Prelude.{map, slice_index}
use denote.Ref.{Bor}
use Rattle.lu_text.specs.Names.{is_name_part}
use Rattle.lu_text.specs.Lines.{is_blank, texts}
use Rattle.lu_source_text.specs.Grammar.{is_at_end, is_pair, item_len, name_len, source_words, words_by}

pub item_some : (b : ℕ) (bs : List ℕ) → 1 ≤ item_len (b ∷ bs)
item_some b bs = by_part (is_name_part b) (is_pair b (slice_index bs 0))
  where
    by_part : (s t : Bool) → 1 ≤ (if s then 1 + name_len bs else (if t then 2 else 1))
    by_part true t = omega arith
    by_part false true = omega arith
    by_part false false = omega arith

-- steps enough are enough
words_enough : (n m : ℕ) (bs : List ℕ) → length bs ≤ n → length bs ≤ m → words_by n bs ≡ words_by m bs
words_enough zero zero bs h k = refl
words_enough zero (suc m) [] h k = refl
words_enough zero (suc m) (b ∷ bs) h k = absurd (omega arith)
words_enough (suc n) zero [] h k = refl
words_enough (suc n) zero (b ∷ bs) h k = absurd (omega arith)
words_enough (suc n) (suc m) [] h k = refl
words_enough (suc n) (suc m) (b ∷ bs) h k =
    let some = item_some b bs in
    let l = length-drop (item_len (b ∷ bs)) (b ∷ bs) in
    ap (λ ws. if is_at_end (b ∷ bs) then [] else (if is_blank b then [] else take (item_len (b ∷ bs)) (b ∷ bs) ∷ []) ++ ws)
    (words_enough n m (drop (item_len (b ∷ bs)) (b ∷ bs)) (omega (arith, l)) (omega (arith, l)))

-- no word is left
pub words_none : (bytes : List ℕ) → is_at_end bytes ≡ true → source_words bytes ≡ []
words_none [] h = refl
words_none (b ∷ bs) h =
    ap (λ t. if t then [] else (if is_blank b then [] else take (item_len (b ∷ bs)) (b ∷ bs) ∷ []) ++ words_by (length bs) (drop (item_len (b ∷ bs)) (b ∷ bs))) h

-- the first word or blank, and the words after it
pub words_first : (bytes : List ℕ) → is_at_end bytes ≡ false → source_words bytes ≡ (if is_blank (get_or bytes 0 0) then [] else take (item_len bytes) bytes ∷ []) ++ source_words (drop (item_len bytes) bytes)
words_first [] h = absurd cc
words_first (b ∷ bs) h =
    let some = item_some b bs in
    let l = length-drop (item_len (b ∷ bs)) (b ∷ bs) in
    ap (λ t. if t then [] else (if is_blank b then [] else take (item_len (b ∷ bs)) (b ∷ bs) ∷ []) ++ words_by (length bs) (drop (item_len (b ∷ bs)) (b ∷ bs))) h
    ∙ ap (λ ws. (if is_blank b then [] else take (item_len (b ∷ bs)) (b ∷ bs) ∷ []) ++ ws)
    (words_enough (length bs) (length (drop (item_len (b ∷ bs)) (b ∷ bs))) (drop (item_len (b ∷ bs)) (b ∷ bs)) (omega (arith, l)) (omega arith))

map_last : {X Y : Type 0} (f : X → Y) (xs : List X) (x : X) → map f (xs ++ x ∷ []) ≡ map f xs ++ f x ∷ []
map_last f [] x = refl
map_last f (y ∷ ys) x = ap (λ zs. f y ∷ zs) (map_last f ys x)

-- one word more
pub word_more : (words now : List (Bor (List ℕ))) (item : Bor (List ℕ)) (rest back all : List ℕ) (blank : Bool) → texts words ++ source_words rest ≡ source_words all → is_at_end rest ≡ false → blank ≡ is_blank (get_or rest 0 0) → blank ≡ false → item.now ≡ take (item_len rest) rest → back ≡ drop (item_len rest) rest → now ≡ words ++ item ∷ [] → texts now ++ source_words back ≡ source_words all
word_more words now item rest back all blank so some is no_blank front back_is more =
    let first : source_words rest ≡ item.now ∷ source_words back =
    words_first rest some ∙ ap (λ t. (if t then [] else take (item_len rest) rest ∷ []) ++ source_words (drop (item_len rest) rest)) (sym is ∙ no_blank) ∙ ap (λ w. w ∷ source_words (drop (item_len rest) rest)) (sym front) ∙ ap (λ b. item.now ∷ source_words b) (sym back_is) in
    ap (λ l. texts l ++ source_words back) more
    ∙ ap (λ l. l ++ source_words back) (map_last (λ (w : Bor (List ℕ)). w.now) words item)
    ∙ append_assoc (texts words) (item.now ∷ []) (source_words back)
    ∙ ap (λ l. texts words ++ l) (sym first)
    ∙ so

-- a blank, which is no word
pub blank_passed : (words : List (Bor (List ℕ))) (rest back all : List ℕ) → texts words ++ source_words rest ≡ source_words all → is_at_end rest ≡ false → is_blank (get_or rest 0 0) ≡ true → back ≡ drop (item_len rest) rest → texts words ++ source_words back ≡ source_words all
blank_passed words rest back all so some blank back_is =
    let first : source_words rest ≡ source_words back =
    words_first rest some ∙ ap (λ t. (if t then [] else take (item_len rest) rest ∷ []) ++ source_words (drop (item_len rest) rest)) blank ∙ ap source_words (sym back_is) in
    ap (λ l. texts words ++ l) (sym first) ∙ so

append_none : {X : Type 0} (xs : List X) → xs ++ [] ≡ xs
append_none [] = refl
append_none (x ∷ xs) = ap (λ ys. x ∷ ys) (append_none xs)

-- all words are there
pub words_done : (words : List (Bor (List ℕ))) (rest all : List ℕ) → texts words ++ source_words rest ≡ source_words all → is_at_end rest ≡ true → texts words ≡ source_words all
words_done words rest all so done = sym (append_none (texts words)) ∙ ap (λ l. texts words ++ l) (sym (words_none rest done)) ∙ so
