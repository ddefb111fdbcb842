use Rattle.std.proofs.Common.{rules, arith}
use Rattle.std.proofs.lemmas.Result.{IfOk-weaker}
use Rattle.lu_report.proofs.FormLines.{all_judged, none_judged, one_judged}
use Rattle.lu_report.proofs.faults.report_faults.Goals as goal

pub loop-position-init : goal.loop-position-init
loop-position-init c = none_judged c.version_by-version.result c.args.lines.now _ (search rules)

pub loop-position-preserved : goal.loop-position-preserved
loop-position-preserved c =
    rw c.next_wanted-form.ensures (one_judged c.version_by-version.result c.args.lines.now c.loop-position.form c.loop-position.position _ c.in_ok-fault.fault c.loop-position.faults.items c.in_ok-faults.faults.items (omega arith) c.loop-position.invariant c.in_ok-fault.ensures c.in_ok-faults.ensures)

pub returns : goal.returns
returns c =
    let told = rw c.missing.ensures at c.with_fault-2.ensures in
    IfOk-weaker c.with_fault-2.result _ _
    (λ all is. all_judged c.version_by-version.result c.args.lines.now c.loop-position.form c.loop-position.position c.loop-position.faults.items all.items (omega arith) c.version_by-version.ensures c.loop-position.invariant is)
    told
