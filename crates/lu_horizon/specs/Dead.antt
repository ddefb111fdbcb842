-- Registers that don't matter any more: whichever way an operation goes on, they are written before
-- they are read again, or not read again.
use Rattle.std.specs.Prelude.{◌≡◌, ◌↔◌, ℕ, ◌+◌, ◌<◌, ◌==◌, ◌&&◌, ◌||◌, ◌⊎◌, not, Bool, true, false, List, [], ◌∷◌, Some, slice_get, get_or}
use Rattle.lu_component.specs.Component.{Component}
use Rattle.lu_component.specs.declared.instr.Instr.{Instr}
use Rattle.lu_component.specs.declared.instr.Instr.TheVariants.{Set, Compute, Load, Store, Cas, Await, AwaitNot, Pick, Jump, JumpIfZero, Return}
use Rattle.lu_component.specs.declared.instr.Operand.{Operand}
use Rattle.lu_component.specs.declared.instr.Operand.TheVariants.{Reg, Num}
use Rattle.lu_machine.specs.States.{instr_at}

-- the operand is register r
abbrev pub names_register : ℕ → Operand → Bool
names_register r (Reg q) = q == r
names_register r (Num n) = false

-- whether the instruction reads register r
abbrev pub reads : Instr → ℕ → Bool
reads (Set to v) r = names_register r v
reads (Compute by to a b) r = names_register r a || names_register r b
reads (Load to w i) r = names_register r i
reads (Store w i v) r = names_register r i || names_register r v
reads (Cas to w i expected desired) r =
    names_register r i || (names_register r expected || names_register r desired)
reads (Await w i v) r = names_register r i || names_register r v
reads (AwaitNot w i v) r = names_register r i || names_register r v
reads (JumpIfZero v target) r = names_register r v
reads (Return v) r = names_register r v
reads _ r = false

-- whether it writes register r, where the operation goes on
abbrev pub writes : Instr → ℕ → Bool
writes (Set to v) r = to == r
writes (Compute by to a b) r = to == r
writes (Load to w i) r = to == r
writes (Cas to w i expected desired) r = to == r
writes (Pick to count) r = to == r
writes _ r = false

-- ---- live and dead

-- the operation may go on from the instruction at this place to that place
abbrev pub GoesTo : ℕ → Instr → ℕ → Type 0
GoesTo place (Jump target) next = next ≡ target
GoesTo place (JumpIfZero v target) next = (next ≡ target) ⊎ (next ≡ place + 1)
GoesTo place (Return v) next = ⊥
GoesTo place _ next = next ≡ place + 1

-- Register r is read at the last place of this way through the code of an operation, which begins
-- at the first, and is written at no place before it.
abbrev pub IsReadAlong : Component → ℕ → ℕ → ℕ → List ℕ → Type 0
IsReadAlong c op r place [] =
    (instr : Instr) × (instr_at c op place ≡ Some instr) × (reads instr r ≡ true)
IsReadAlong c op r place (next ∷ way) =
    (instr : Instr) × (instr_at c op place ≡ Some instr) × (writes instr r ≡ false)
    × GoesTo place instr next × IsReadAlong c op r next way

-- Register r is live at the place: along some way from there it is read before it is written (Aho,
-- Sethi and Ullman, 1986).
abbrev pub IsLive : Component → ℕ → ℕ → ℕ → Type 0
IsLive c op place r = (way : List ℕ) × IsReadAlong c op r place way

-- It is dead at a place in the operation's code, where it is one of the eight registers, and not
-- live.
pub record IsDead (c : Component) (op place r : ℕ) : Type 0 where
  pub there : (instr : Instr) × (instr_at c op place ≡ Some instr)
  pub register : r < 8
  pub unread : IsLive c op place r → ⊥

-- ---- tables

-- whether register r is dead wherever the operation may go from the instruction at this place,
-- where `dead` tells so of each place
abbrev pub dead_after : (ℕ → ℕ → Bool) → ℕ → Instr → ℕ → Bool
dead_after dead place (Jump target) r = dead target r
dead_after dead place (JumpIfZero v target) r = dead target r && dead (place + 1) r
dead_after dead place (Return v) r = true
dead_after dead place _ r = dead (place + 1) r

-- register r is not read there, and is written, or dead after
abbrev pub dead_before : (ℕ → ℕ → Bool) → ℕ → Instr → ℕ → Bool
dead_before dead place instr r =
    not (reads instr r) && (writes instr r || dead_after dead place instr r)

-- of each operation, each place of its code, and each register, whether it is dead there
abbrev pub DeadTable : Type 0
DeadTable = List (List (List Bool))

-- of the places of one operation
abbrev pub dead_at : List (List Bool) → ℕ → ℕ → Bool
dead_at places place r = get_or (get_or places place []) r false

-- what is said to be dead at this place of the code is not read before it is written
abbrev pub AreDeadAt : List Instr → List (List Bool) → ℕ → Type 0
AreDeadAt code places place =
    (instr : Instr) (r : ℕ) → slice_get code place ≡ Some instr → dead_at places place r ≡ true
    → dead_before (dead_at places) place instr r ≡ true

-- nor at any place
abbrev pub AreDead : List Instr → List (List Bool) → Type 0
AreDead code places = (place : ℕ) → AreDeadAt code places place

-- the same of each operation
abbrev pub is_dead : DeadTable → ℕ → ℕ → ℕ → Bool
is_dead table op = dead_at (get_or table op [])

abbrev pub IsDeadTable : Component → DeadTable → Type 0
IsDeadTable c table =
    (op place : ℕ) (instr : Instr) (r : ℕ) → instr_at c op place ≡ Some instr
    → is_dead table op place r ≡ true → dead_before (is_dead table op) place instr r ≡ true

-- the table says of each register at each place whether it is dead
abbrev pub TellsDead : Component → DeadTable → Type 0
TellsDead c table =
    (op place r : ℕ) → is_dead table op place r ≡ true ↔ IsDead c op place r
