-- What is ahead at an instruction, from what is ahead after it.
use Rattle.std.specs.Prelude.{ℕ, ◌+◌, ◌-◌, zero, suc, Bool, false, if◌then◌else◌, List, is_some, slice_get}
use Rattle.std.specs.Option.{option_map_or}
use Rattle.lu_component.specs.declared.instr.Instr.{Instr}
use Rattle.lu_component.specs.declared.instr.Instr.TheVariants.{Set, Compute, Load, Store, Cas, Lock, Unlock, Await, AwaitNot, Pick, Jump, JumpIfZero, Return}
use Rattle.lu_component.specs.declared.instr.Operand.{Operand}
use Rattle.lu_component.specs.declared.instr.Operand.TheVariants.{Reg, Num}
use Rattle.lu_component.specs.Component.{Component}
use Rattle.lu_machine.specs.States.{cell_of}
use Rattle.lu_machine.specs.Steps.{is_local}
use Rattle.lu_horizon.specs.declared.outlook.Outlook.{Outlook}
use Rattle.lu_horizon.specs.Outlooks.{either, nothing_known, one_before}

-- the index is that of a cell of array w, whatever the registers hold
abbrev pub is_certain_cell : Component → ℕ → Operand → Bool
is_certain_cell c w (Reg r) = false
is_certain_cell c w (Num n) = is_some (cell_of c w n)

-- after an instruction that may trap, unless its cell is there
abbrev pub unless_there : Bool → Outlook → Outlook → Outlook
unless_there there next rest = if there then next else either next rest

-- the outlook at this instruction and place, where `on` has what is ahead of a thread that comes to
-- a place within its move, and `rest` is that once the operation has ended
abbrev pub outlook_at : Component → (ℕ → Outlook) → Outlook → ℕ → Instr → Outlook
outlook_at c on rest place (Set to v) = one_before (on (place + 1))
outlook_at c on rest place (Compute by to a b) = one_before (on (place + 1))
outlook_at c on rest place (Load to w i) =
    one_before (unless_there (is_certain_cell c w i) (on (place + 1)) rest)
outlook_at c on rest place (Store w i v) =
    one_before (unless_there (is_certain_cell c w i) (on (place + 1)) rest)
outlook_at c on rest place (Cas to w i expected desired) =
    one_before (unless_there (is_certain_cell c w i) (on (place + 1)) rest)
outlook_at c on rest place (Lock l) = nothing_known
outlook_at c on rest place (Unlock l) = one_before (either (on (place + 1)) rest)
outlook_at c on rest place (Await w i v) = nothing_known
outlook_at c on rest place (AwaitNot w i v) = nothing_known
outlook_at c on rest place (Pick to count) = nothing_known
outlook_at c on rest place (Jump target) = one_before (on target)
outlook_at c on rest place (JumpIfZero v target) =
    one_before (either (on target) (on (place + 1)))
outlook_at c on rest place (Return v) = one_before rest

-- the outlook after a local instruction at this place
abbrev pub after_local : (ℕ → Outlook) → ℕ → Instr → Outlook
after_local on place (Jump target) = on target
after_local on place (JumpIfZero v target) = either (on target) (on (place + 1))
after_local on place _ = on (place + 1)

-- what is ahead of a thread that runs on from this place by at most n local instructions, where
-- `known` has what is ahead of a move that begins at a place
abbrev pub run_on : List Instr → (ℕ → Outlook) → ℕ → ℕ → Outlook
run_on code known zero place = known place
run_on code known (suc n) place =
    option_map_or
    (λ i. if is_local i then after_local (run_on code known n) place i else known place)
    (slice_get code place) (known place)

-- how many local instructions may follow this one, where a move begins with it
abbrev pub more_after : Component → Instr → ℕ
more_after c instr = c.local - (if is_local instr then 1 else 0)

-- what is ahead of a move that begins with this instruction of the code, at this place
abbrev pub ahead_at : Component → List Instr → (ℕ → Outlook) → Outlook → ℕ → Instr → Outlook
ahead_at c code known rest place instr =
    outlook_at c (run_on code known (more_after c instr)) rest place instr

-- what is ahead of a move that opens a call of this code
abbrev pub ahead_of_call : Component → List Instr → (ℕ → Outlook) → Outlook
ahead_of_call c code known = one_before (run_on code known c.local 0)
