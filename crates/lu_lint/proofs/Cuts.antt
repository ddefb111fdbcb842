-- What is said of the lines between the parts of a bundle, line by line.
use Rattle.std.proofs.Common.{◌≡◌, ℕ, ◌+◌, ◌<◌, List, ◌++◌, length, get_or, drop, ◌∙◌, append_assoc}
use Rattle.lu_text.specs.Lines.{texts}
use Rattle.lu_text.proofs.Reading.{text_more}
use denote.Ref.{Bor}
use Rattle.lu_lint.specs.declared.remark.Said.{Said}
use Rattle.lu_lint.specs.Bundle.{separator_said, separators_from}

-- what is said of a line, and then of the lines after it
pub goes_past : (lines : List (Bor (List ℕ))) (i : ℕ) (d : Bor (List ℕ)) (before next total : List Said) → i < length lines → next ≡ before ++ separator_said (i + 1) (get_or lines i d).now → before ++ separators_from (i + 1) (drop i (texts lines)) ≡ total → next ++ separators_from (i + 1 + 1) (drop (i + 1) (texts lines)) ≡ total
goes_past lines i d before next total within more so_far =
    let line = (get_or lines i d).now in
    rw more (append_assoc before (separator_said (i + 1) line) (separators_from (i + 1 + 1) (drop (i + 1) (texts lines))) ∙ (rw (text_more lines i d within) at so_far))
