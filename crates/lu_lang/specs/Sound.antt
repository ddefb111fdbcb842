-- What holds of the lines read so far: what they declare obeys the rules of components.
use Rattle.std.specs.Prelude.{◌≡◌, ℕ, ◌<◌, ◌≤◌, List, length, All, is_some, false, IfSome}
use Rattle.lu_text.specs.Names.{IsName}
use Rattle.lu_component.specs.declared.component.Op.{Op}
use Rattle.lu_lang.specs.declared.draft.Statement.{Statement}
use Rattle.lu_lang.specs.declared.draft.Statement.TheVariants.{Plain, Jump, JumpIfZero}
use Rattle.lu_component.specs.Component.{operation_number, IsComponent, IsInstr, IsOperand}
use Rattle.lu_lang.specs.Draft.{OpenOp, ComponentDraft, named}

-- among this many arrays and locks, what the instruction names is there, but for its label
abbrev pub IsStatement : ℕ → ℕ → Statement → Type 0
IsStatement arrays locks (Plain i) = (places : ℕ) → IsInstr arrays locks places i
IsStatement arrays locks (Jump label) = Unit {0}
IsStatement arrays locks (JumpIfZero v label) = IsOperand v

-- Beside this many arrays and locks, and these operations: the open operation obeys the rules so
-- far, and is not declared twice.
pub record IsBegun (arrays locks : ℕ) (operations : List Op) (b : OpenOp) : Type 0 where
  pub room : length operations < 16
  pub apart : is_some (operation_number operations b.name) ≡ false
  pub name : IsName b.name
  pub args : b.args ≤ 4
  pub few : length b.statements ≤ 64
  pub statements : All (IsStatement arrays locks) b.statements
  pub labels : All (λ l. l.place < length b.statements) b.labels

-- under each name, what is declared obeys the rules of components
pub record IsSoundDraft (d : ComponentDraft) : Type 0 where
  pub name : IfSome d.name IsName
  pub declared : (name : List ℕ) → IsName name → IsComponent (named d name)
  pub begun : IfSome d.begun (IsBegun (length d.arrays) (length d.locks) d.operations)
