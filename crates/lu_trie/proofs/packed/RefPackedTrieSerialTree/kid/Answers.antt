use Rattle.std.proofs.Common.{◌<◌, length, ap, ◌∙◌, arith}
use Rattle.lu_trie.proofs.FlatTrees.{as_many, flat_branching, flat_count, flat_in_range, flat_kid, flat_below}
use Rattle.lu_trie.proofs.packed.RefPackedTrieSerialTree.kid.Goals as goal

pub index-requires : goal.index-requires
index-requires g c =
    let nodes = c.table.inside.nodes in
    let links = c.table.inside.links in
    let view = c.table.view_is ∙ ap (λ p. p.0) c.packed.view_is in
    omega (arith, as_many links.items nodes.items c.args.self.now.now.0 view c.table.invariant, nodes.ok.0, c.requires.place.0)

pub overflow_add-index : goal.overflow_add-index
overflow_add-index g c =
    let nodes = c.table.inside.nodes in
    let links = c.table.inside.links in
    let view = c.table.view_is ∙ ap (λ p. p.0) c.packed.view_is in
    let lt : c.args.place < length nodes.items = omega (arith, as_many links.items nodes.items c.args.self.now.now.0 view c.table.invariant, c.requires.place.0) in
    let count = flat_count links.items nodes.items c.args.self.now.now.0 view c.table.invariant c.args.place c.index.result.now lt c.index.ensures in
    let room = flat_in_range links.items nodes.items c.args.self.now.now.0 view c.table.invariant c.args.place c.index.result.now lt c.index.ensures in
    omega (arith, count, room, c.requires.in_range, links.ok.0)

pub index-requires-2 : goal.index-requires-2
index-requires-2 g c =
    let nodes = c.table.inside.nodes in
    let links = c.table.inside.links in
    let view = c.table.view_is ∙ ap (λ p. p.0) c.packed.view_is in
    let lt : c.args.place < length nodes.items = omega (arith, as_many links.items nodes.items c.args.self.now.now.0 view c.table.invariant, c.requires.place.0) in
    let count = flat_count links.items nodes.items c.args.self.now.now.0 view c.table.invariant c.args.place c.index.result.now lt c.index.ensures in
    let room = flat_in_range links.items nodes.items c.args.self.now.now.0 view c.table.invariant c.args.place c.index.result.now lt c.index.ensures in
    omega (arith, count, room, c.requires.in_range, links.ok.0)

pub index-requires-3 : goal.index-requires-3
index-requires-3 g c =
    let nodes = c.table.inside.nodes in
    let links = c.table.inside.links in
    let view = c.table.view_is ∙ ap (λ p. p.0) c.packed.view_is in
    let lt : c.args.place < length nodes.items = omega (arith, as_many links.items nodes.items c.args.self.now.now.0 view c.table.invariant, c.requires.place.0) in
    let count = flat_count links.items nodes.items c.args.self.now.now.0 view c.table.invariant c.args.place c.index.result.now lt c.index.ensures in
    let room = flat_in_range links.items nodes.items c.args.self.now.now.0 view c.table.invariant c.args.place c.index.result.now lt c.index.ensures in
    let below = flat_below links.items nodes.items c.args.self.now.now.0 view c.table.invariant c.args.place c.index.result.now lt c.index.ensures c.args.i c.index-2.result.now (omega (arith, count, c.requires.in_range)) c.index-2.ensures in
    omega (arith, below, as_many links.items nodes.items c.args.self.now.now.0 view c.table.invariant, nodes.ok.0)

pub returns-clause-place : goal.returns-clause-place
returns-clause-place g c =
    let nodes = c.table.inside.nodes in
    let links = c.table.inside.links in
    let view = c.table.view_is ∙ ap (λ p. p.0) c.packed.view_is in
    let lt : c.args.place < length nodes.items = omega (arith, as_many links.items nodes.items c.args.self.now.now.0 view c.table.invariant, c.requires.place.0) in
    let count = flat_count links.items nodes.items c.args.self.now.now.0 view c.table.invariant c.args.place c.index.result.now lt c.index.ensures in
    let room = flat_in_range links.items nodes.items c.args.self.now.now.0 view c.table.invariant c.args.place c.index.result.now lt c.index.ensures in
    let below = flat_below links.items nodes.items c.args.self.now.now.0 view c.table.invariant c.args.place c.index.result.now lt c.index.ensures c.args.i c.index-2.result.now (omega (arith, count, c.requires.in_range)) c.index-2.ensures in
    (below, flat_branching links.items nodes.items c.args.self.now.now.0 view c.table.invariant c.index-2.result.now.1 c.index-3.result.now (omega (arith, below, as_many links.items nodes.items c.args.self.now.now.0 view c.table.invariant)) c.index-3.ensures)

pub returns-clause-kid : goal.returns-clause-kid
returns-clause-kid g c =
    let nodes = c.table.inside.nodes in
    let links = c.table.inside.links in
    let view = c.table.view_is ∙ ap (λ p. p.0) c.packed.view_is in
    let lt : c.args.place < length nodes.items = omega (arith, as_many links.items nodes.items c.args.self.now.now.0 view c.table.invariant, c.requires.place.0) in
    let count = flat_count links.items nodes.items c.args.self.now.now.0 view c.table.invariant c.args.place c.index.result.now lt c.index.ensures in
    let room = flat_in_range links.items nodes.items c.args.self.now.now.0 view c.table.invariant c.args.place c.index.result.now lt c.index.ensures in
    flat_kid links.items nodes.items c.args.self.now.now.0 view c.table.invariant c.args.place c.index.result.now lt c.index.ensures c.args.i c.index-2.result.now (omega (arith, count, c.requires.in_range)) c.index-2.ensures
