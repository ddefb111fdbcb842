-- What a component declares, and the rules that each component meets.
use Rattle.std.specs.Prelude.{ℕ, ◌-◌, ◌^◌, ◌<◌, ◌≤◌, List, length, map, All, Option, Some, None, slice_get}
use Rattle.std.specs.List.{position, IsDistinct}
use Rattle.std.specs.Str.{bytes_eq}
use Rattle.lu_text.specs.Names.{IsName}
use Rattle.lu_component.specs.declared.instr.Operand.{Operand}
use Rattle.lu_component.specs.declared.instr.Operand.TheVariants.{Reg, Num}
use Rattle.lu_component.specs.declared.instr.Instr.{Instr}
use Rattle.lu_component.specs.declared.instr.Instr.TheVariants.{Set, Compute, Load, Store, Cas, Lock, Unlock, Await, AwaitNot, Pick, Jump, JumpIfZero, Return}
use Rattle.lu_component.specs.declared.component.Array.{Array}
use Rattle.lu_component.specs.declared.component.Op.{Op}

-- what the text of a component declares, each kind in its order
pub record Component : Type 0 where
  pub name : List ℕ
  -- how many local instructions run with one move at most
  pub local : ℕ
  pub arrays : List Array
  pub locks : List (List ℕ)
  pub operations : List Op

abbrev pub declarations : List ℕ → ℕ → List Array → List (List ℕ) → List Op → Component
declarations name local arrays locks operations = record {
  name = name;
  local = local;
  arrays = arrays;
  locks = locks;
  operations = operations;
}

-- the number of the operation of this name
abbrev pub operation_number : List Op → List ℕ → Option ℕ
operation_number operations name = position (λ o. bytes_eq o.name name) operations

abbrev pub IsRegister : ℕ → Type 0
IsRegister r = r < 8

abbrev pub IsOperand : Operand → Type 0
IsOperand (Reg r) = IsRegister r
IsOperand (Num n) = n < 2 ^ 32

-- Among this many arrays and locks, and code of this length: what the instruction names is there.
abbrev pub IsInstr : ℕ → ℕ → ℕ → Instr → Type 0
IsInstr arrays locks places (Set to v) = IsRegister to × IsOperand v
IsInstr arrays locks places (Compute by to a b) = IsRegister to × IsOperand a × IsOperand b
IsInstr arrays locks places (Load to array i) = IsRegister to × (array < arrays) × IsOperand i
IsInstr arrays locks places (Store array i v) = (array < arrays) × IsOperand i × IsOperand v
IsInstr arrays locks places (Cas to array i old new) =
    IsRegister to × (array < arrays) × IsOperand i × IsOperand old × IsOperand new
IsInstr arrays locks places (Lock l) = l < locks
IsInstr arrays locks places (Unlock l) = l < locks
IsInstr arrays locks places (Await array i v) = (array < arrays) × IsOperand i × IsOperand v
IsInstr arrays locks places (AwaitNot array i v) = (array < arrays) × IsOperand i × IsOperand v
IsInstr arrays locks places (Pick to count) = IsRegister to × (1 ≤ count) × (count ≤ 8)
IsInstr arrays locks places (Jump target) = target < places
IsInstr arrays locks places (JumpIfZero v target) = IsOperand v × (target < places)
IsInstr arrays locks places (Return v) = IsOperand v

-- an instruction that code may end with: after it nothing is next
abbrev pub IsLast : Instr → Type 0
IsLast (Jump target) = Unit {0}
IsLast (Return v) = Unit {0}
IsLast _ = ⊥

abbrev pub EndsWell : Option Instr → Type 0
EndsWell None = ⊥
EndsWell (Some instr) = IsLast instr

-- Among this many arrays and locks: 1 to 64 instructions, and the last is `return` or `jump`.
pub record IsCode (arrays locks : ℕ) (code : List Instr) : Type 0 where
  pub few : length code ≤ 64
  pub ends : EndsWell (slice_get code (length code - 1))
  pub instrs : All (IsInstr arrays locks (length code)) code

pub record IsOp (arrays locks : ℕ) (op : Op) : Type 0 where
  pub name : IsName op.name
  pub args : op.args ≤ 4
  pub code : IsCode arrays locks op.code

pub record IsArray (array : Array) : Type 0 where
  pub name : IsName array.name
  pub some : 1 ≤ array.len
  pub few : array.len ≤ 64
  pub init : array.init < 2 ^ 32

-- no name stands twice
abbrev pub AreDistinct : List (List ℕ) → Type 0
AreDistinct names = IsDistinct bytes_eq names

-- the limits hold, names are distinct within their kind, and what an instruction names is there
pub record IsComponent (c : Component) : Type 0 where
  pub name : IsName c.name
  pub local_few : c.local ≤ 16
  pub arrays_few : length c.arrays ≤ 16
  pub arrays : All IsArray c.arrays
  pub arrays_apart : AreDistinct (map (λ a. a.name) c.arrays)
  pub locks_few : length c.locks ≤ 8
  pub locks : All IsName c.locks
  pub locks_apart : AreDistinct c.locks
  pub operations_few : length c.operations ≤ 16
  pub operations : All (IsOp (length c.arrays) (length c.locks)) c.operations
  pub operations_apart : AreDistinct (map (λ o. o.name) c.operations)
