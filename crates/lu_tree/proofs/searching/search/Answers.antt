use Rattle.std.proofs.Common.{ap}
use Rattle.lu_tree.proofs.NeverStopped.{never_stopped}
use Rattle.lu_tree.proofs.searching.search.Goals as goal

pub returns-clause-found : goal.returns-clause-found
returns-clause-found g c = λ s is.
    never_stopped (g.T.SerialTree.members c.in_ok-cache.cache.tree) (g.T.SerialTree.members c.args.tree.now) s c.args.bound c.args.from.now c.search_watched.result
    (ap (λ x. g.T.SerialTree.members x) c.in_ok-cache.ensures.tree) c.search_watched.ensures.stopped (c.search_watched.ensures.found s is)
