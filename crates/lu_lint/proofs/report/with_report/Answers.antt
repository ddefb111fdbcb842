use Rattle.std.proofs.Common.{arith, refl, rules}
use Rattle.lu_lint.specs.Parts.{report_said}
use Rattle.lu_lint.proofs.FaultsSaid.{ends, goes_on}
use Rattle.lu_lint.proofs.report.with_report.Goals as goal

pub loop-fault-preserved : goal.loop-fault-preserved
loop-fault-preserved over c = goes_on (report_said c.args.above) c.deref-fault-items.result.now c.loop-fault.fault-index _ _ c.loop-fault.invariant _ c.report_said.result _ (omega arith) c.report_said.ensures c.in_ok-all.ensures

pub returns : goal.returns
returns over c =
    let said = ends (report_said c.args.above) c.deref-fault-items.result.now c.loop-fault.fault-index _ _ c.loop-fault.invariant (omega arith) in
    (_, (c.in_ok-faults.faults.items, search rules, refl), rw c.deref-fault-items.ensures.value at said)
