-- What calls see of operations.
use Rattle.std.specs.Prelude.{ℕ, Bool, true, List, map, Option, Some, None, ◌==◌}
use Rattle.std.specs.List.{position}
use Rattle.std.specs.Str.{bytes_eq}
use Rattle.lu_component.specs.declared.component.Op.{Op}

-- an operation's name, and how many arguments it takes, where that is known
pub record Signature : Type 0 where
  pub name : List ℕ
  pub arity : Option ℕ

abbrev pub signature : Op → Signature
signature op = record { name = op.name; arity = Some op.args }

abbrev pub signatures : List Op → List Signature
signatures operations = map signature operations

-- the number of the signature with this name
abbrev pub signature_number : List Signature → List ℕ → Option ℕ
signature_number signatures name = position (λ s. bytes_eq s.name name) signatures

-- a call may have this many arguments: any number, where it is not known how many
abbrev pub takes : Option ℕ → ℕ → Bool
takes None count = true
takes (Some arity) count = arity == count
