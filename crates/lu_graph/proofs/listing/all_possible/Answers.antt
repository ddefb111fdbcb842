use Rattle.std.proofs.Common.{arith}
use Rattle.lu_graph.proofs.Listed.{told_first}
use Rattle.lu_graph.proofs.listing.all_possible.Goals as goal

pub returns : goal.returns
returns c = told_first c.args.members.now c.loop-member.alive.items (omega (arith, c.loop-member.invariant.many)) c.loop-member.invariant.all
