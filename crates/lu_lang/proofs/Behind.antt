-- The next line with words, line by line.
use Rattle.std.proofs.Common.{◌≡◌, ℕ, ◌+◌, ◌<◌, Bool, true, false, eqb, List, length, get_or, drop, sym, ap, ◌∙◌}
use Rattle.std.proofs.lemmas.List.{length-map}
use Rattle.lu_text.specs.Lines.{texts, words_of}
use Rattle.lu_text.proofs.Reading.{text_more}
use Rattle.lu_lang.specs.Mend.{next_words}
use denote.Ref.{Bor}

-- as many words as the line has, as a test tells
counted : (words : List (Bor (List ℕ))) (line : List ℕ) (n : ℕ) (b : Bool) → texts words ≡ words_of line → n ≡ length words → eqb n 0 ≡ b → eqb (length (words_of line)) 0 ≡ b
counted words line n b is len test =
    let same : length (words_of line) ≡ length words = ap length (sym is) ∙ simp length-map in
    rw (same, ← len) test

-- a line with words is the next one
pub is_next : (words lines : List (Bor (List ℕ))) (i n : ℕ) (d : Bor (List ℕ)) (total : List (List ℕ)) → i < length lines → texts words ≡ words_of (get_or lines i d).now → n ≡ length words → eqb n 0 ≡ false
    → next_words (drop i (texts lines)) ≡ total → texts words ≡ total
is_next words lines i n d total within is len test so_far =
    let some = counted words (get_or lines i d).now n false is len test in
    is ∙ (rw (text_more lines i d within, some) at so_far)

-- a line without words is not
pub is_passed : (words lines : List (Bor (List ℕ))) (i n : ℕ) (d : Bor (List ℕ)) (total : List (List ℕ)) → i < length lines → texts words ≡ words_of (get_or lines i d).now → n ≡ length words → eqb n 0 ≡ true
    → next_words (drop i (texts lines)) ≡ total → next_words (drop (i + 1) (texts lines)) ≡ total
is_passed words lines i n d total within is len test so_far =
    let none = counted words (get_or lines i d).now n true is len test in
    rw (text_more lines i d within, none) at so_far
