-- What the lines of a component's text have declared so far.
use Rattle.std.specs.Prelude.{ℕ, List, [], Option, None}
use Rattle.std.specs.Option.{unwrap_or}
use Rattle.lu_component.specs.declared.component.Array.{Array}
use Rattle.lu_component.specs.declared.component.Op.{Op}
use Rattle.lu_lang.specs.declared.draft.Label.{Label}
use Rattle.lu_lang.specs.declared.draft.Statement.{Statement}
use Rattle.lu_component.specs.Component.{Component, declarations}

-- an operation that has no `end` yet
pub record OpenOp : Type 0 where
  pub name : List ℕ
  pub args : ℕ
  pub statements : List Statement
  pub labels : List Label

-- an operation of which no line but `op` is read
abbrev pub op_begun : List ℕ → ℕ → OpenOp
op_begun name args = record { name = name; args = args; statements = []; labels = [] }

-- what is declared, and the operation that has no `end` yet
pub record ComponentDraft : Type 0 where
  pub name : Option (List ℕ)
  pub local : Option ℕ
  pub arrays : List Array
  pub locks : List (List ℕ)
  pub operations : List Op
  pub begun : Option OpenOp

abbrev pub nothing : ComponentDraft
nothing =
    record { name = None; local = None; arrays = []; locks = []; operations = []; begun = None }

-- what is declared, under this name; without a line `local` no local instruction runs with a move
abbrev pub named : ComponentDraft → List ℕ → Component
named d name = declarations name (unwrap_or d.local 0) d.arrays d.locks d.operations
