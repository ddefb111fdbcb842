-- The first line that has words, line by line.
use Rattle.std.proofs.Common.{◌≡◌, ℕ, ◌+◌, ◌<◌, ◌≤◌, Bool, List, [], ◌∷◌, length, get_or, drop, Option, Some, None, refl, sym, ◌∙◌}
use Rattle.lu_text.specs.Lines.{texts, words_of}
use Rattle.lu_text.specs.Words.{Word}
use Rattle.lu_text.proofs.Reading.{text_more, texts_end}
use Rattle.lu_lint.specs.Said.{line_below}
use Rattle.lu_cli.specs.Lint.{first_line, line_or}
use denote.Ref.{Bor}

or_found : (word : List ℕ) (n : ℕ) (words : List Word) (below : Option (ℕ × Bool)) (r : ℕ × Bool) → line_or word n words None ≡ Some r → line_or word n words below ≡ Some r
or_found word n [] below r is = absurd cc
or_found word n (first ∷ words) below r is = is

or_none : (word : List ℕ) (n : ℕ) (words : List Word) (below : Option (ℕ × Bool)) → line_or word n words None ≡ None → line_or word n words below ≡ below
or_none word n [] below is = refl
or_none word n (first ∷ words) below is = absurd cc

pub found_here : (word : List ℕ) (above i : ℕ) (lines : List (Bor (List ℕ))) (d : Bor (List ℕ)) (r : ℕ × Bool) (total : Option (ℕ × Bool)) → i < length lines → line_or word (line_below above 1) (words_of (get_or lines i d).now) None ≡ Some r → first_line word above (drop i (texts lines)) ≡ total → Some r ≡ total
found_here word above i lines d r total within found so_far =
    sym (or_found word (line_below above 1) (words_of (get_or lines i d).now) (first_line word (line_below above 1) (drop (i + 1) (texts lines))) r found) ∙ (rw (text_more lines i d within) at so_far)

pub none_here : (word : List ℕ) (above i : ℕ) (lines : List (Bor (List ℕ))) (d : Bor (List ℕ)) (total : Option (ℕ × Bool)) → i < length lines → line_or word (line_below above 1) (words_of (get_or lines i d).now) None ≡ None → first_line word above (drop i (texts lines)) ≡ total → first_line word (line_below above 1) (drop (i + 1) (texts lines)) ≡ total
none_here word above i lines d total within none so_far =
    sym (or_none word (line_below above 1) (words_of (get_or lines i d).now) (first_line word (line_below above 1) (drop (i + 1) (texts lines))) none) ∙ (rw (text_more lines i d within) at so_far)

pub none_left : (word : List ℕ) (above i : ℕ) (lines : List (Bor (List ℕ))) (total : Option (ℕ × Bool)) → length lines ≤ i → first_line word above (drop i (texts lines)) ≡ total → None ≡ total
none_left word above i lines total past so_far = rw (texts_end lines i past) at so_far
