use Rattle.std.proofs.Common.{rules}
use Rattle.lu_component.specs.declared.instr.Instr.TheVariants.{Load}
use Rattle.lu_lang.specs.declared.draft.Statement.TheVariants.{Plain}
use Rattle.lu_lang.proofs.Declared.{with_array}
use Rattle.lu_lang.proofs.instructions.load_line.Goals as goal

pub returns-in_err-array : goal.returns-in_err-array
returns-in_err-array c =
    let h = rw (← c.in_err-array.ensures) at (with_array (λ n. Plain (Load c.in-Some-register_in.to n c.in-Some-operand_in.index)) c.args.draft.now c.in-Some.array.now) in
    search (rules, h)

pub returns : goal.returns
returns c =
    let h = rw (← c.in_ok-array.ensures) at (with_array (λ n. Plain (Load c.in-Some-register_in.to n c.in-Some-operand_in.index)) c.args.draft.now c.in-Some.array.now) in
    search (rules, h)
