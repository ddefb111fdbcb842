-- What an instruction makes of the operation that carries it out.
use Rattle.std.specs.Prelude.{ℕ, ◌+◌, ◌-◌, ◌*◌, ◌%◌, ◌^◌, ◌==◌, nat_lt, if◌then◌else◌, slice_index, slice_set}
use Rattle.lu_component.specs.declared.instr.Operand.{Operand}
use Rattle.lu_component.specs.declared.instr.Operand.TheVariants.{Reg, Num}
use Rattle.lu_component.specs.declared.instr.Arithmetic.{Arithmetic}
use Rattle.lu_component.specs.declared.instr.Arithmetic.TheVariants.{Add, Sub, Mul, Eq, Lt}
use Rattle.lu_machine.specs.declared.event.Outcome.{Outcome}
use Rattle.lu_machine.specs.declared.thread.Frame.{Frame}

-- what an instruction makes of its operation: it goes on so, or it ends
pub data Effect : Type 0 where
  GoesOn : Frame → Effect
  Ends : Outcome → Effect

-- what an operand stands for
abbrev pub value_of : Frame → Operand → ℕ
value_of f (Reg r) = slice_index f.registers r
value_of f (Num n) = n

-- arithmetic modulo 2^32, and comparisons of unsigned values: 1 where they hold, else 0
abbrev pub computed : Arithmetic → ℕ → ℕ → ℕ
computed Add a b = (a + b) % 2 ^ 32
computed Sub a b = (a + (2 ^ 32 - b)) % 2 ^ 32
computed Mul a b = (a * b) % 2 ^ 32
computed Eq a b = if a == b then 1 else 0
computed Lt a b = if nat_lt a b then 1 else 0

-- the operation goes on at this place
abbrev pub onward_at : Frame → ℕ → Effect
onward_at f place = GoesOn (record f { place = place })

-- the operation goes on at the next place
abbrev pub onward : Frame → Effect
onward f = onward_at f (f.place + 1)

-- the operation goes on at the next place, with n in register r
abbrev pub onward_with : Frame → ℕ → ℕ → Effect
onward_with f r n = onward (record f { registers = slice_set f.registers r n })
