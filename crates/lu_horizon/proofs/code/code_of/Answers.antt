use Rattle.std.proofs.Common.{◌≡◌, ◌≤◌, List, Some, None, length, refl, sym, subst, slice_get}
use Rattle.lu_component.specs.declared.component.TheConstants.{MOST_INSTRS}
use Rattle.lu_component.specs.declared.instr.Instr.{Instr}
use Rattle.std.proofs.lemmas.Option.{slice_get_past, slice_get_read}
use Rattle.lu_horizon.specs.Tables.{IsCodeOf}
use Rattle.lu_horizon.proofs.Operations.{code_there, few_there, no_code}
use Rattle.lu_horizon.proofs.code.code_of.Goals as goal

pub returns-in-None-clause-code : goal.returns-in-None-clause-code
returns-in-None-clause-code c =
    let ops = c.operations.result.now in
    let past : slice_get ops c.from.result ≡ None = slice_get_past ops c.from.result c.in-None.ensures.lookup.3 in
    no_code c.args.component.now c.args.op (rw (c.operations.ensures.operations, c.from.ensures) at past)

pub returns-in-Some-clause-code : goal.returns-in-Some-clause-code
returns-in-Some-clause-code c =
    let ops = c.operations.result.now in
    let op = c.in-Some.op.now in
    let read = c.in-Some.ensures.lookup in
    let got : slice_get ops c.from.result ≡ Some op = slice_get_read ops (length ops) c.from.result op refl read.3.0 read.1 in
    subst (IsCodeOf c.args.component.now c.args.op) (sym c.instrs.ensures)
    (code_there c.args.component.now c.args.op op (rw (c.operations.ensures.operations, c.from.ensures) at got))

pub returns-in-Some-clause-few : goal.returns-in-Some-clause-few
returns-in-Some-clause-few c =
    let ops = c.operations.result.now in
    let op = c.in-Some.op.now in
    let read = c.in-Some.ensures.lookup in
    let got : slice_get ops c.from.result ≡ Some op = slice_get_read ops (length ops) c.from.result op refl read.3.0 read.1 in
    subst (λ (code : List Instr). length code ≤ MOST_INSTRS) (sym c.instrs.ensures)
    (few_there c.args.component.now c.args.op op c.operations.ensures.sound (rw (c.operations.ensures.operations, c.from.ensures) at got))
