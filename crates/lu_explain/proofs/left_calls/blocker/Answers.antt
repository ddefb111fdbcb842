use Rattle.std.proofs.Common.{get_or, ap}
use Rattle.lu_explain.proofs.Blocking.{blocked_by, blocked_by_none}
use Rattle.lu_explain.proofs.left_calls.blocker.Goals as goal

pub returns-in-None : goal.returns-in-None
returns-in-None c p j are call =
    blocked_by_none c.args.history.now c.requires.history c.args.b c.before-2.result.now c.args.taken.now c.before-2.ensures p are c.in-None.ensures.first

pub returns-in-Some : goal.returns-in-Some
returns-in-Some c p j are call =
    let more = c.in-Some.ensures.first in
    blocked_by c.args.history.now c.requires.history c.args.b c.before-2.result.now c.args.taken.now c.before-2.ensures p are c.in-Some.t (get_or c.args.taken.now c.from.result 0) j call (ap (λ x. get_or c.args.taken.now x 0) c.from.ensures) more.0 more.1
