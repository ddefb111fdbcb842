use Rattle.std.proofs.Common.{◌<◌, length, ap, ◌∙◌, arith}
use Rattle.lu_trie.proofs.FlatTrees.{as_many, flat_branching}
use Rattle.lu_trie.proofs.packed.RefPackedTrieSerialTree.root.Goals as goal

pub index-requires : goal.index-requires
index-requires g c =
    let nodes = c.table.inside.nodes in
    let links = c.table.inside.links in
    let view = c.table.view_is ∙ ap (λ p. p.0) c.packed.view_is in
    omega (arith, as_many links.items nodes.items c.args.self.now.now.0 view c.table.invariant, nodes.ok.0, c.packed.invariant, ap length (ap (λ p. p.0) c.packed.view_is))

pub returns-clause-place : goal.returns-clause-place
returns-clause-place g c =
    let nodes = c.table.inside.nodes in
    let links = c.table.inside.links in
    let view = c.table.view_is ∙ ap (λ p. p.0) c.packed.view_is in
    let lt : c.packed.inside.root < length nodes.items = omega (arith, as_many links.items nodes.items c.args.self.now.now.0 view c.table.invariant, c.packed.invariant, ap length (ap (λ p. p.0) c.packed.view_is)) in
    (omega (arith, lt, as_many links.items nodes.items c.args.self.now.now.0 view c.table.invariant), flat_branching links.items nodes.items c.args.self.now.now.0 view c.table.invariant c.packed.inside.root c.index.result.now lt c.index.ensures)
