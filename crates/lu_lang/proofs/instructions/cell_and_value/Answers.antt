use Rattle.std.proofs.Common.{ℕ, rules}
use Rattle.lu_component.specs.declared.instr.Operand.{Operand}
use Rattle.lu_lang.proofs.Declared.{with_array}
use Rattle.lu_lang.proofs.instructions.cell_and_value.Goals as goal

pub returns-in_err-declared_array : goal.returns-in_err-declared_array
returns-in_err-declared_array c =
    let h = rw (← c.in_err-declared_array.ensures) at (with_array {A = ℕ × Operand × Operand} (λ n. (n, c.in-Some-Some.index, c.in-Some-Some.value)) c.args.draft.now c.in-Some.array.now) in
    search (rules, h)

pub returns : goal.returns
returns c =
    let h = rw (← c.in_ok-declared_array.ensures) at (with_array {A = ℕ × Operand × Operand} (λ n. (n, c.in-Some-Some.index, c.in-Some-Some.value)) c.args.draft.now c.in-Some.array.now) in
    search (rules, h)
