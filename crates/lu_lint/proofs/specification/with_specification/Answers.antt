use Rattle.std.proofs.Common.{arith, refl, rules}
use Rattle.lu_lint.specs.Parts.{specification_said}
use Rattle.lu_lint.proofs.FaultsSaid.{ends, goes_on}
use Rattle.lu_lint.proofs.specification.with_specification.Goals as goal

pub loop-fault-preserved : goal.loop-fault-preserved
loop-fault-preserved over c = goes_on (specification_said c.args.above) c.deref-fault-items.result.now c.loop-fault.fault-index _ _ c.loop-fault.invariant _ c.specification_said.result _ (omega arith) c.specification_said.ensures c.in_ok-all.ensures

pub returns : goal.returns
returns over c =
    let said = ends (specification_said c.args.above) c.deref-fault-items.result.now c.loop-fault.fault-index _ _ c.loop-fault.invariant (omega arith) in
    rw c.in-Some.is (_, (c.in_ok-faults.faults.items, search rules, refl), rw c.deref-fault-items.ensures.value at said)
