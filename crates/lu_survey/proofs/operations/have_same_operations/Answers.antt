use Rattle.std.proofs.Common.{rules, arith, ◌≡◌, ◌<◌, length}
use Rattle.lu_survey.specs.Comparing.{IsAlike}
use Rattle.lu_survey.proofs.InComparisons.{alike_more}
use Rattle.lu_survey.proofs.operations.have_same_operations.Goals as goal

pub loop-number-preserved : goal.loop-number-preserved
loop-number-preserved c =
    let alike : IsAlike c.index-ops-number.result c.index-others-number.result = search rules in
    let less : c.loop-number.number < length c.operations-ops.result.now = omega arith in
    let long : length c.operations-ops.result.now ≡ length c.operations-others.result.now = omega arith in
    alike_more c.loop-number.number c.operations-ops.result.now c.operations-others.result.now c.index-ops-number.result c.index-others-number.result less long c.loop-number.invariant c.index-ops-number.is c.index-others-number.is alike
