-- Updates of a cell: what they store, and the code of their loop.
use Rattle.std.specs.Prelude.{ℕ, ◌+◌, ◌==◌, nat_lt, if◌then◌else◌, Option, Some, None}
use Rattle.lu_component.specs.declared.instr.Arithmetic.{Arithmetic}
use Rattle.lu_component.specs.declared.instr.Arithmetic.TheVariants as arithmetic
use Rattle.lu_component.specs.declared.instr.Operand.{Operand}
use Rattle.lu_component.specs.declared.instr.Operand.TheVariants.{Reg}
use Rattle.lu_machine.specs.Effects.{computed}
use Rattle.lu_source.specs.declared.updating.Update.{Update}
use Rattle.lu_source.specs.declared.updating.Update.TheVariants.{Add, Sub, Swap, Max, Min}
use Rattle.lu_source.specs.declared.tree.Action.TheVariants as action
use Rattle.lu_source.specs.Trees.{Tree}
use Rattle.lu_source.specs.Trees.Tree.{Nothing, Plain, Then, If, Loop, Break, BreakUnless}

-- ---- what they store

-- what is stored in place of the value v, by an update with the operand m; none where v stays
abbrev pub updated : Update → ℕ → ℕ → Option ℕ
updated Add m v = Some (computed arithmetic.Add v m)
updated Sub m v = Some (computed arithmetic.Sub v m)
updated Swap m v = Some m
updated Max m v = if nat_lt v m then Some m else None
updated Min m v = if nat_lt m v then Some m else None

-- what `compare_exchange` stores in place of the value v
abbrev pub exchanged : ℕ → ℕ → ℕ → Option ℕ
exchanged old new v = if v == old then Some new else None

-- ---- their code

-- leaves the loop around unless this gives 1, which register r becomes
abbrev pub only_where : Arithmetic → ℕ → Operand → Operand → Tree
only_where by r a b = Then (Plain (action.Compute by r a b)) (BreakUnless (Reg r))

-- What is stored is made of the value in register r and of an operand, in the register after it.
-- Where the value stays, this leaves the loop around.
abbrev pub making : Update → ℕ → Operand → Tree
making Add r v = Plain (action.Compute arithmetic.Add (r + 1) (Reg r) v)
making Sub r v = Plain (action.Compute arithmetic.Sub (r + 1) (Reg r) v)
making Swap r v = Nothing
making Max r v = only_where arithmetic.Lt (r + 1) (Reg r) v
making Min r v = only_where arithmetic.Lt (r + 1) v (Reg r)

-- where it is then
abbrev pub made_at : Update → ℕ → Operand → Operand
made_at Add r v = Reg (r + 1)
made_at Sub r v = Reg (r + 1)
made_at _ r v = v

-- a turn of an update: loads the cell's value to register r, makes what is stored, and leaves the
-- loop where a `cas` from the value to that takes place
abbrev pub turn : ℕ → Operand → ℕ → Tree → Operand → Tree
turn w index r make made =
    Then (Plain (action.Load r w index)) (Then make
    (Then (Plain (action.Cas (r + 1) w index (Reg r) made)) (If (Reg (r + 1)) Break)))

-- the loop of an update, after which the value before is in register r
abbrev pub attempts : ℕ → Operand → ℕ → Tree → Operand → Tree
attempts w index r make made = Loop (turn w index r make made)
