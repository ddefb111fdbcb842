-- Keywords of instructions, registers and operands.
use Rattle.std.specs.Prelude.{find, ℕ, ◌-◌, List, [], ◌∷◌, Option, Some, None, codes, ◌==◌, ◌&&◌, nat_le, if◌then◌else◌}
use Rattle.std.specs.Str.{bytes_eq}
use Rattle.std.specs.Option.{option_map, option_or}
use Rattle.lu_text.specs.Numbers.{value_in}
use Rattle.lu_component.specs.declared.instr.Operand.{Operand}
use Rattle.lu_component.specs.declared.instr.Operand.TheVariants.{Reg, Num}
use Rattle.lu_component.specs.declared.instr.Arithmetic.TheVariants.{Add, Sub, Mul, Eq, Lt}
use Rattle.lu_component.specs.Operands.{arithmetic_word}
use Rattle.lu_lang.specs.declared.keyword.Keyword.{Keyword}
use Rattle.lu_lang.specs.declared.keyword.Keyword.TheVariants.{Set, Compute, Load, Store, Cas, Lock, Unlock, Await, AwaitNot, Pick, Jump, JumpIfZero, Return}

-- ---- keywords

abbrev pub keyword_word : Keyword → List ℕ
keyword_word Set = codes "set"
keyword_word (Compute arithmetic) = arithmetic_word arithmetic
keyword_word Load = codes "load"
keyword_word Store = codes "store"
keyword_word Cas = codes "cas"
keyword_word Lock = codes "lock"
keyword_word Unlock = codes "unlock"
keyword_word Await = codes "await"
keyword_word AwaitNot = codes "awaitne"
keyword_word Pick = codes "pick"
keyword_word Jump = codes "jump"
keyword_word JumpIfZero = codes "jz"
keyword_word Return = codes "return"

abbrev pub keywords : List Keyword
keywords =
    Set ∷ Compute Add ∷ Compute Sub ∷ Compute Mul ∷ Compute Eq ∷ Compute Lt
    ∷ Load ∷ Store ∷ Cas ∷ Lock ∷ Unlock ∷ Await ∷ AwaitNot ∷ Pick
    ∷ Jump ∷ JumpIfZero ∷ Return ∷ []

-- the keyword that a word is, where it is one
abbrev pub keyword_in : List ℕ → Option Keyword
keyword_in word = find (λ k. bytes_eq word (keyword_word k)) keywords

-- ---- registers and operands

-- `r0` to `r7`
abbrev pub register_in : List ℕ → Option ℕ
register_in [] = None
register_in (r ∷ []) = None
register_in (r ∷ d ∷ []) = if r == 114 && (nat_le 48 d && nat_le d 55) then Some (d - 48) else None
register_in (r ∷ d ∷ e ∷ word) = None

-- a register, or a number of at most 4294967295
abbrev pub operand_in : List ℕ → Option Operand
operand_in word =
    option_or (option_map (λ r. Reg r) (register_in word)) (option_map (λ n. Num n) (value_in word))
