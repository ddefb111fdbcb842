-- Reading of a matrix that goes on after a fault.
use Rattle.std.specs.Prelude.{ℕ, List, [], ◌∷◌, ◌++◌, length, Some, codes, ◌&&◌, nat_le, if◌then◌else◌}
use Rattle.std.specs.Str.{bytes_eq}
use Rattle.lu_text.specs.Words.{Word}
use Rattle.lu_test.specs.MatrixText.{MatrixDraft, is_nothing, parts_in}

-- one more thread that makes no call, where there is room
abbrev pub with_empty : MatrixDraft → MatrixDraft
with_empty d =
    if nat_le 8 (length d.threads) then d else record d { threads = d.threads ++ [] ∷ [] }

-- the first line with words is the setup where it says so; each other is a thread
abbrev pub mend_parts : MatrixDraft → List (List Word) → MatrixDraft
mend_parts d [] = d
mend_parts d ([] ∷ []) = d
mend_parts d ([] ∷ part ∷ parts) = with_empty d
mend_parts d ((word ∷ words) ∷ parts) =
    if bytes_eq word (codes "setup") && is_nothing d then record d { setup = Some [] }
    else with_empty d

-- what a line with a fault leaves
abbrev pub mend : MatrixDraft → List ℕ → MatrixDraft
mend d line = mend_parts d (parts_in line)
