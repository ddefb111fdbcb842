-- The lines of a matrix that begin with a word, line by line.
use Rattle.std.proofs.Common.{◌≡◌, ℕ, ◌+◌, ◌<◌, ◌≤◌, List, ◌++◌, length, get_or, drop, sym, ◌∙◌}
use Rattle.std.proofs.lemmas.List.{append_assoc, append-nil}
use Rattle.lu_text.specs.Lines.{texts}
use Rattle.lu_text.specs.Words.{Word}
use Rattle.lu_text.proofs.Reading.{text_more, texts_end}
use Rattle.lu_lint.specs.Runs.{line_if, lines_from}
use denote.Ref.{Bor}

pub line_more : (word : Word) (lines : List (Bor (List ℕ))) (i : ℕ) (d : Bor (List ℕ)) (before next total : List ℕ) → i < length lines → next ≡ before ++ line_if word (i + 1) (get_or lines i d).now → before ++ lines_from word (i + 1) (drop i (texts lines)) ≡ total → next ++ lines_from word (i + 1 + 1) (drop (i + 1) (texts lines)) ≡ total
unfolding lines_from
line_more word lines i d before next total within more so_far =
    let here = line_if word (i + 1) (get_or lines i d).now in
    rw more (append_assoc before here (lines_from word (i + 1 + 1) (drop (i + 1) (texts lines))) ∙ (rw (text_more lines i d within) at so_far))

pub no_line_more : (word : Word) (lines : List (Bor (List ℕ))) (i n : ℕ) (before total : List ℕ) → length lines ≤ i → before ++ lines_from word n (drop i (texts lines)) ≡ total → before ≡ total
unfolding lines_from
no_line_more word lines i n before total past so_far = sym (append-nil before) ∙ (rw (texts_end lines i past) at so_far)
