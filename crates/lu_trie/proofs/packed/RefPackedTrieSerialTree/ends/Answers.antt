use Rattle.std.proofs.Common.{ap, sym, ◌∙◌, arith}
use Rattle.lu_trie.proofs.FlatTrees.{as_many, flat_ends}
use Rattle.lu_trie.proofs.packed.RefPackedTrieSerialTree.ends.Goals as goal

pub index-requires : goal.index-requires
index-requires g c =
    let nodes = c.table.inside.nodes in
    let links = c.table.inside.links in
    let view = c.table.view_is ∙ ap (λ p. p.0) c.packed.view_is in
    omega (arith, as_many links.items nodes.items c.args.self.now.now.0 view c.table.invariant, nodes.ok.0, c.requires.0)

pub returns : goal.returns
returns g c =
    let nodes = c.table.inside.nodes in
    let links = c.table.inside.links in
    let view = c.table.view_is ∙ ap (λ p. p.0) c.packed.view_is in
    sym (flat_ends links.items nodes.items c.args.self.now.now.0 view c.table.invariant c.args.place c.index.result.now (omega (arith, as_many links.items nodes.items c.args.self.now.now.0 view c.table.invariant, c.requires.0)) c.index.ensures)
