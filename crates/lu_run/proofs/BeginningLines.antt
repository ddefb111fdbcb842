-- Which lines begin a run.
use Rattle.std.proofs.Common.{◌≡◌, ℕ, Bool, List, [], ◌∷◌, length, Some, refl, sym, arith}
use denote.Ref.{Bor}
use Rattle.lu_text.specs.Lines.{texts, words_of}
use Rattle.lu_run.specs.Beginnings.{begins_run, begins_so}

pub found : (line : List ℕ) (lines : List (List ℕ)) (b : Bool) → begins_so (words_of line) ≡ Some b → begins_run (line ∷ lines) ≡ b
found line lines b is = rw is refl

-- a line without words
pub passed : (line : List ℕ) (lines : List (List ℕ)) (words : List (Bor (List ℕ))) → texts words ≡ words_of line → length words ≡ 0 → begins_run (line ∷ lines) ≡ begins_run lines
passed line lines [] is none = rw (sym is) refl
passed line lines (w ∷ ws) is none = absurd (omega arith)
