use Rattle.std.proofs.Common.{[]}
use Rattle.lu_cli.proofs.Strings.{goes_on, not_all}
use Rattle.lu_cli.proofs.compile.strings_of.Goals as goal

pub returns-in-Err : goal.returns-in-Err
returns-in-Err c = not_all c.args.parts.now c.loop-part.part-index (record { ref_ptr = (0, 0); now = [] }) c.loop-part-test.true c.in-Err.ensures.cases.0

pub loop-part-preserved : goal.loop-part-preserved
loop-part-preserved c =
    rw c.in_ok-push-in-Ok.ensures.items
    (goes_on c.args.parts.now c.loop-part.part-index (record { ref_ptr = (0, 0); now = [] }) c.in-Ok.string c.loop-part.strings.items c.loop-part-test.true c.in-Ok.ensures.cases.0 c.loop-part.invariant)
