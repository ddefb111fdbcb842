-- What is said of words that follow a cell.
use Rattle.std.specs.Prelude.{ℕ, List}
use denote.Ref.{Bor}
use Rattle.lu_text.specs.Words.{Word}
use Rattle.lu_source.specs.Expressions.{Expr}
use Rattle.lu_source_text.specs.declared.scope.Cell.{Cell}
use Rattle.lu_source_text.specs.declared.scope.Scope.{Scope as Lent}
use Rattle.lu_source_text.specs.Grammar.{Inner}
use Rattle.lu_source_text.specs.Reads.{by_steps, cell_of}

-- inside of an expression, which is read by at most this many steps
abbrev pub after_cell : {A : Type 0} → (ℕ × Expr → Inner → List Word → A) → Cell → ℕ → Lent
    → List (Bor Word) → A
after_cell said cell steps s words = by_steps (said (cell_of cell)) steps s words
