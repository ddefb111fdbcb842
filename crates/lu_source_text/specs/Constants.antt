-- The constants of a source, by their names.
use Rattle.std.specs.Prelude.{ℕ, List, [], ◌∷◌, Option, Some, None, Vec, if◌then◌else◌}
use Rattle.std.specs.Str.{bytes_eq}
use Rattle.lu_text.specs.Words.{Word}

-- a name for a number
pub record Constant : Type 0 where
  pub name : Word
  pub value : ℕ

-- the value of the constant of this name
abbrev pub constant_from : List Constant → Word → Option ℕ
constant_from [] name = None
constant_from (c ∷ cs) name = if bytes_eq c.name name then Some c.value else constant_from cs name

-- a name in memory, and its number
abbrev pub constant_of : {Z : Type 0} → Vec ℕ Z × ℕ → Constant
constant_of (name, value) = record { name = name.items; value = value }
