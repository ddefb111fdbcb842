-- The words of operands and of arithmetic.
use Rattle.std.specs.Prelude.{ℕ, List, ◌++◌, codes}
use Rattle.std.specs.Fmt.{decimal}
use Rattle.lu_component.specs.declared.instr.Operand.{Operand}
use Rattle.lu_component.specs.declared.instr.Operand.TheVariants.{Reg, Num}
use Rattle.lu_component.specs.declared.instr.Arithmetic.{Arithmetic}
use Rattle.lu_component.specs.declared.instr.Arithmetic.TheVariants.{Add, Sub, Mul, Eq, Lt}

-- `r0` to `r7`
abbrev pub register_word : ℕ → List ℕ
register_word r = codes "r" ++ decimal r

-- a register, or the number
abbrev pub operand_word : Operand → List ℕ
operand_word (Reg r) = register_word r
operand_word (Num n) = decimal n

-- the keyword of the instruction that computes it
abbrev pub arithmetic_word : Arithmetic → List ℕ
arithmetic_word Add = codes "add"
arithmetic_word Sub = codes "sub"
arithmetic_word Mul = codes "mul"
arithmetic_word Eq = codes "eq"
arithmetic_word Lt = codes "lt"
