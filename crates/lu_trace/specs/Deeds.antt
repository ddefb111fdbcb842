-- What an instruction does, and what it waits for, in words: of the state before it.
use Rattle.std.specs.Prelude.{ℕ, ◌++◌, Bool, ◌==◌, if◌then◌else◌, List, [], codes, Option, Some, None, is_some}
use Rattle.std.specs.Option.{option_map}
use Rattle.std.specs.Fmt.{decimal}
use Rattle.lu_component.specs.declared.instr.Instr.{Instr}
use Rattle.lu_component.specs.declared.instr.Instr.TheVariants.{Set, Compute, Load, Store, Cas, Lock, Unlock, Await, AwaitNot, Pick, Jump, JumpIfZero, Return}
use Rattle.lu_component.specs.declared.instr.Operand.{Operand}
use Rattle.lu_component.specs.Component.{Component}
use Rattle.lu_lang.specs.ComponentText.{array_word, lock_word}
use Rattle.lu_test.specs.declared.schedule.Move.{Move}
use Rattle.lu_machine.specs.declared.thread.Frame.{Frame}
use Rattle.lu_machine.specs.Effects.{value_of, computed}
use Rattle.lu_machine.specs.States.{State, cell_at, value_at, owner_of}
use Rattle.lu_machine.specs.Steps.{owns}
use Rattle.lu_trace.specs.declared.effects.Cell.{Cell}
use Rattle.lu_trace.specs.declared.effects.Read.{Read}
use Rattle.lu_trace.specs.declared.effects.Swap.{Swap}
use Rattle.lu_trace.specs.declared.wording.Wording.{Wording}
use Rattle.lu_trace.specs.Wordings.{goes_on_at, is_indexed, register_becomes, register_name, tested}

-- ---- words

-- `[2]`, where cells are shown with their index
abbrev pub index_word : Bool → ℕ → List ℕ
index_word indexed i = if indexed then codes "[" ++ decimal i ++ codes "]" else []

-- `count[0]`, or `count`
abbrev pub cell_word : Wording → Component → Cell → List ℕ
cell_word how c cell = array_word c cell.array ++ index_word (is_indexed how cell.array) cell.index

-- a cell, what is said of it, and a value
abbrev pub of_cell : Wording → Component → Cell → List ℕ → ℕ → List ℕ
of_cell how c cell said n = cell_word how c cell ++ said ++ decimal n

-- `count[0] = 5`: the cell becomes 5
abbrev pub cell_becomes : Wording → Component → Cell → ℕ → List ℕ
cell_becomes how c cell n = of_cell how c cell (codes " = ") n

-- `count[0] is 5`
abbrev pub cell_is : Wording → Component → Cell → ℕ → List ℕ
cell_is how c cell n = of_cell how c cell (codes " is ") n

-- `count[0] is not 5`
abbrev pub cell_is_not : Wording → Component → Cell → ℕ → List ℕ
cell_is_not how c cell n = of_cell how c cell (codes " is not ") n

-- `, r1 = 5`, where the register has a name
abbrev pub register_after : Wording → Frame → ℕ → ℕ → List ℕ
register_after how f r n =
    if is_some (register_name how f r) then codes ", " ++ register_becomes how f r n else []

abbrev pub trap : List ℕ
trap = codes "trap"

-- ---- deeds

-- the cell of array w that the operation f names
abbrev pub named_cell : Frame → ℕ → Operand → Cell
named_cell f w i = record { array = w; index = value_of f i }

-- its value: none at or past the array's length
abbrev pub seen : State → Frame → ℕ → Operand → Option ℕ
seen s f w i = option_map (λ p. value_at s p) (cell_at s f w i)

-- what is said of a cell's value: a trap where there is no such cell
abbrev pub or_trap : (ℕ → List ℕ) → Option ℕ → List ℕ
or_trap said None = trap
or_trap said (Some n) = said n

-- the register becomes what the cell is; where it has no name, what the cell is
abbrev pub loaded : Wording → Component → Frame → Read → ℕ → List ℕ
loaded how c f read n =
    if is_some (register_name how f read.to) then register_becomes how f read.to n
    else cell_is how c read.cell n

-- a compare-and-swap of the operation f, with the values of its operands
abbrev pub swap_of : Frame → ℕ → ℕ → Operand → Operand → Operand → Swap
swap_of f to w i expected desired = record {
  to = to;
  cell = named_cell f w i;
  expected = value_of f expected;
  desired = value_of f desired;
}

-- where the values are equal the cell becomes `desired` and the register 1, else the register 0
abbrev pub swapped : Wording → Component → Frame → Swap → ℕ → List ℕ
swapped how c f swap n =
    if n == swap.expected
    then cell_becomes how c swap.cell swap.desired ++ register_after how f swap.to 1
    else cell_is how c swap.cell n ++ register_after how f swap.to 0

-- what the cell is
abbrev pub looked : Wording → State → Frame → ℕ → Operand → List ℕ
looked how s f w i = or_trap (cell_is how s.component (named_cell f w i)) (seen s f w i)

-- the lock is free; a trap where thread t does not own it
abbrev pub unlock_deed : State → ℕ → ℕ → List ℕ
unlock_deed s t l = if owns s t l then lock_word s.component l ++ codes " is free" else trap

-- the jump is taken where the value is 0; a source has no register for that value, so it is shown
abbrev pub jump_deed : Wording → Frame → ℕ → ℕ → List ℕ
jump_deed how f target n =
    tested how n ++ (if n == 0 then goes_on_at how f target else codes "continues")

-- By the move m the instruction of the operation f does this, in the state s before it.
abbrev pub deed : Wording → State → Move → Frame → Instr → List ℕ
deed how s m f (Set to v) = register_becomes how f to (value_of f v)
deed how s m f (Compute by to a b) =
    register_becomes how f to (computed by (value_of f a) (value_of f b))
deed how s m f (Load to w i) =
    or_trap (loaded how s.component f (record { to = to; cell = named_cell f w i })) (seen s f w i)
deed how s m f (Store w i v) =
    or_trap (λ n. cell_becomes how s.component (named_cell f w i) (value_of f v)) (seen s f w i)
deed how s m f (Cas to w i expected desired) =
    or_trap (swapped how s.component f (swap_of f to w i expected desired)) (seen s f w i)
deed how s m f (Lock l) = lock_word s.component l ++ codes " is taken"
deed how s m f (Unlock l) = unlock_deed s m.thread l
deed how s m f (Await w i v) = looked how s f w i
deed how s m f (AwaitNot w i v) = looked how s f w i
deed how s m f (Pick to count) = register_becomes how f to m.pick
deed how s m f (Jump target) = goes_on_at how f target
deed how s m f (JumpIfZero v target) = jump_deed how f target (value_of f v)
deed how s m f (Return v) = codes "ret " ++ decimal (value_of f v)

-- ---- waits

abbrev pub owned_by : Option ℕ → List ℕ
owned_by None = []
owned_by (Some t) = codes ", which thread " ++ decimal t ++ codes " holds"

abbrev pub present : Option ℕ → List ℕ
present None = []
present (Some n) = codes ", but it is " ++ decimal n

-- the lock, and the thread that has it
abbrev pub awaited_lock : State → ℕ → List ℕ
awaited_lock s l =
    codes "waits for lock " ++ lock_word s.component l ++ owned_by (owner_of s l)

-- the value that the cell has to become, and the one that it has
abbrev pub awaited_is : Wording → Component → Cell → ℕ → Option ℕ → List ℕ
awaited_is how c cell n now = codes "waits until " ++ cell_is how c cell n ++ present now

-- the value that the cell has to lose
abbrev pub awaited_is_not : Wording → Component → Cell → ℕ → List ℕ
awaited_is_not how c cell n = codes "waits until " ++ cell_is_not how c cell n

-- What a blocked instruction of the operation f waits for, in the state s.
abbrev pub awaited : Wording → State → Frame → Instr → List ℕ
awaited how s f (Lock l) = awaited_lock s l
awaited how s f (Await w i v) =
    awaited_is how s.component (named_cell f w i) (value_of f v) (seen s f w i)
awaited how s f (AwaitNot w i v) =
    awaited_is_not how s.component (named_cell f w i) (value_of f v)
awaited how s f _ = []
