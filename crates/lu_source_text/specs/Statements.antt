-- Statements in memory.
use Rattle.std.specs.Prelude.{List, Vec, map}
use denote.Ref.{Bor}
use Rattle.lu_text.specs.Lines.{texts}
use Rattle.lu_text.specs.Words.{Word}
use Rattle.lu_source_text.specs.Grammar.{statements_from}

-- the words of each statement
abbrev pub lists : {Z : Type 0} → List (Vec (Bor Word) Z) → List (List Word)
lists all = map (λ words. texts words.items) all

-- the statements that words make, after these words of the first one
abbrev pub statements_after : List (Bor Word) → List (Bor Word) → List (List Word)
statements_after front words = statements_from (texts front) (texts words)
