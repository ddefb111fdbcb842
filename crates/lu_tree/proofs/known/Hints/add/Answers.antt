use Rattle.std.proofs.Common.{rules}
use Rattle.lu_tree.proofs.KnownLaws.{hint_added}
use Rattle.lu_tree.proofs.known.Hints.add.Goals as goal

pub returns : goal.returns
returns c = hint_added c.args.self.now c.args.thread c.from.result c.args.below (search rules)
