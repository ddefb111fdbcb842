use Rattle.std.proofs.Common.{rules, arith, ◌<◌, ◌∙◌, List, [], length, length-append, ap}
use Rattle.std.proofs.lemmas.Result.{err_from_is_err_and}
use Rattle.lu_history.specs.declared.serial.SerialOp.{SerialOp}
use Rattle.lu_spec.proofs.LinesRead.{none_read, line_read, line_refused}
use Rattle.lu_spec.proofs.Nexts.{gathering}
use Rattle.lu_spec.proofs.reader.read_lines.Goals as goal

pub loop-rest-init : goal.loop-rest-init
loop-rest-init c = record {
  short = omega arith;
  so_far = (let none : List (List SerialOp) = [] in none, none_read c.args.matrix.now c.args.text.now c.in_ok-draft.draft.set c.in_ok-draft.draft.last.items (c.in_ok-draft.ensures c.args.matrix.now));
}

pub returns-in_err-draft-2-clause-fault : goal.returns-in_err-draft-2-clause-fault
returns-in_err-draft-2-clause-fault c =
    let p = err_from_is_err_and c.from_residual-in_err-draft-2.result c.from_residual-in_err-draft-2.ensures.1 in
    let read = c.loop-rest.invariant.so_far in
    let gathered = gathering c.args.matrix.now read.0 c.loop-rest.draft.set c.loop-rest.draft.last.items read.1.draft in
    let some : 0 < length c.loop-rest.rest.now = search rules in
    rw (p.1, p.2) (line_refused c.args.matrix.now c.args.text.now c.cut_line.result.0.now c.loop-rest.rest.now c.cut_line.result.1.now read.0 c.loop-rest.draft.set c.loop-rest.draft.last.items c.loop-rest.number _ read.1 (c.cut_line.ensures.line some) (c.in_err-draft-2.ensures.fault read.0 gathered))

pub loop-rest-preserved : goal.loop-rest-preserved
loop-rest-preserved c =
    let read = c.loop-rest.invariant.so_far in
    let some : 0 < length c.loop-rest.rest.now = search rules in
    let next = c.in_ok-draft-2.ensures.next read.0 read.1.draft in
    let whole = ap length c.cut_line.ensures.whole ∙ length-append c.cut_line.result.0.now c.cut_line.result.1.now in
    record {
      short = omega (arith, c.loop-rest.invariant.short, whole, c.cut_line.ensures.some some);
      so_far = (_, line_read c.args.matrix.now c.args.text.now c.cut_line.result.0.now c.loop-rest.rest.now c.cut_line.result.1.now read.0 c.loop-rest.draft.set c.in_ok-draft-2.draft.set c.loop-rest.draft.last.items c.in_ok-draft-2.draft.last.items c.loop-rest.number read.1 (c.cut_line.ensures.line some) next);
    }
