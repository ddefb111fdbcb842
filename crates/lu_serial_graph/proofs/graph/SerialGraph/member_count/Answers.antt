use Rattle.std.proofs.Common.{arith, ◌<◌, length, ap, ◌∙◌, subst}
use Rattle.std.specs.List.Sorted.{IsStrictlySortedBy}
use Rattle.lu_trie.specs.Members.{history_cmp}
use Rattle.lu_serial_graph.specs.Graphs.{count_of, members_of}
use Rattle.lu_serial_graph.proofs.FlatGraphs.{all_sorted, as_many, flat_counted}
use Rattle.lu_serial_graph.proofs.graph.SerialGraph.member_count.Goals as goal

pub index-requires : goal.index-requires
index-requires g c =
    let nodes = c.table.inside.nodes in
    let links = c.table.inside.links in
    omega (arith, as_many links.items nodes.items c.self.inside.table c.table.view_is c.table.invariant, nodes.ok.0, c.self.invariant)

pub returns-clause-count : goal.returns-clause-count
returns-clause-count g c =
    let nodes = c.table.inside.nodes in
    let links = c.table.inside.links in
    let lt : c.self.inside.root < length nodes.items = omega (arith, as_many links.items nodes.items c.self.inside.table c.table.view_is c.table.invariant, c.self.invariant) in
    flat_counted links.items nodes.items c.self.inside.table c.table.view_is c.table.invariant c.self.inside.root c.index.result.now lt c.index.ensures
    ∙ ap (λ p. count_of (members_of p)) c.self.view_is

pub returns-clause-sorted : goal.returns-clause-sorted
returns-clause-sorted g c =
    let nodes = c.table.inside.nodes in
    let links = c.table.inside.links in
    subst (λ p. IsStrictlySortedBy history_cmp (members_of p)) c.self.view_is
    (all_sorted links.items nodes.items c.self.inside.table c.table.view_is c.table.invariant c.self.inside.root)
