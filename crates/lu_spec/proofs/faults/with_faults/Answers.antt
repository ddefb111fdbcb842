use Rattle.std.proofs.Common.{rules, arith, ◌<◌, ◌∙◌, [], length, length-append, ap}
use Rattle.lu_spec.proofs.FaultLines.{all_judged, none_judged, one_judged}
use Rattle.lu_spec.proofs.Nexts.{gathering}
use Rattle.lu_spec.proofs.faults.with_faults.Goals as goal

pub loop-rest-init : goal.loop-rest-init
loop-rest-init c = record {
  short = omega arith;
  so_far = none_judged c.args.matrix.now c.args.text.now c.in_ok-draft.draft c.args.faults.items (gathering c.args.matrix.now [] c.in_ok-draft.draft.set c.in_ok-draft.draft.last.items (c.in_ok-draft.ensures c.args.matrix.now));
}

pub judge_line-requires : goal.judge_line-requires
judge_line-requires c = (c.loop-rest.invariant.so_far.gathered, c.loop-rest.invariant.so_far.are)

pub loop-rest-preserved : goal.loop-rest-preserved
loop-rest-preserved c =
    let some : 0 < length c.loop-rest.rest.now = search rules in
    let whole = ap length c.cut_line.ensures.whole ∙ length-append c.cut_line.result.0.now c.cut_line.result.1.now in
    record {
      short = omega (arith, c.loop-rest.invariant.short, whole, c.cut_line.ensures.some some);
      so_far = one_judged c.args.matrix.now c.args.text.now c.cut_line.result.0.now c.loop-rest.rest.now c.cut_line.result.1.now c.loop-rest.draft c.in_ok-next.next c.loop-rest.number c.in_ok-next.fault c.args.faults.items c.loop-rest.faults.items c.in_ok-faults.faults.items c.loop-rest.invariant.so_far (c.cut_line.ensures.line some) c.in_ok-next.ensures c.in_ok-faults.ensures;
    }

pub returns : goal.returns
returns c = all_judged c.args.matrix.now c.args.text.now c.loop-rest.rest.now c.loop-rest.draft c.loop-rest.number c.args.faults.items c.loop-rest.faults.items (search rules) c.loop-rest.invariant.so_far
