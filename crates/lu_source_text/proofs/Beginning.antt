-- Which lines begin a source.
use Rattle.std.proofs.Common.{◌≡◌, ℕ, Bool, List, [], ◌∷◌, length, Some, refl, sym, arith}
use denote.Ref.{Bor}
use Rattle.lu_text.specs.Lines.{texts}
use Rattle.lu_source_text.specs.Begins.{begins_so, begins_source}
use Rattle.lu_source_text.specs.Grammar.{source_words}

pub found : (line : List ℕ) (lines : List (List ℕ)) (b : Bool) → begins_so (source_words line) ≡ Some b → begins_source (line ∷ lines) ≡ b
found line lines b is = rw is refl

-- a line without words
pub passed : (line : List ℕ) (lines : List (List ℕ)) (words : List (Bor (List ℕ))) → texts words ≡ source_words line → length words ≡ 0 → begins_source (line ∷ lines) ≡ begins_source lines
passed line lines [] is none = rw (sym is) refl
passed line lines (w ∷ ws) is none = absurd (omega arith)
