use Rattle.std.proofs.Common.{subst}
use Rattle.lu_tree.specs.declared.space.SearchSpace.{SearchSpace}
use Rattle.lu_tree.specs.Trees.{MayFind}
use Rattle.lu_tree.proofs.searching.search_watched.Goals as goal

pub returns-clause-found : goal.returns-clause-found
returns-clause-found g c =
    let members = g.T.SerialTree.members c.args.cache.now.tree in
    subst (λ (x : SearchSpace). MayFind x members c.args.from.now c.search.result) c.in_ok-searcher.ensures.space c.search.ensures.found
