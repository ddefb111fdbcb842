use Rattle.std.proofs.Common.{arith}
use Rattle.lu_report.proofs.LineTests.{too_low}
use Rattle.lu_report.proofs.line.number_within.Goals as goal

pub returns-then-number-least : goal.returns-then-number-least
returns-then-number-least c =
    too_low c.args.front.now c.args.line.now c.args.least c.args.most c.in_ok-number.number (omega arith) c.in_ok-number.ensures.some.0 (omega (arith, c.ranges.most.fits)) c.in_ok-number.ensures.some.1
