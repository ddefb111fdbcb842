use Rattle.lu_graph.proofs.Listed.{list_whole}
use Rattle.lu_graph.proofs.listing.list_members.Goals as goal

pub returns : goal.returns
returns g c =
    list_whole c.new-found.result.items c.new-path.result.items c.list_below.new.found.items (g.T.SerialTree.below c.args.tree.now c.root.result) (g.T.SerialTree.members c.args.tree.now) c.new-found.ensures.items c.new-path.ensures.items c.in_ok-list_below.ensures.found c.root.ensures.all
