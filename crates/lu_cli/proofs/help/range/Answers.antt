use Rattle.std.proofs.Common.{ap, sym}
use Rattle.lu_cli.specs.Help.{range_lent}
use Rattle.lu_cli.proofs.Tables.{builds_same}
use Rattle.lu_cli.proofs.help.range.Goals as goal

pub returns-in-None : goal.returns-in-None
returns-in-None c = builds_same _ _ _ c.format.ensures.ok (sym (ap (range_lent c.args.least c.args.most) c.in-None.is))

pub returns-in-Some : goal.returns-in-Some
returns-in-Some c = builds_same _ _ _ c.format-in-Some.ensures.ok (sym (ap (range_lent c.args.least c.args.most) c.in-Some.is))
