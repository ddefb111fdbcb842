use Rattle.std.proofs.Common.{[], length, refl, sym, ◌∙◌, append-nil}
use Rattle.lu_trie.specs.declared.packed.PackedNode.{PackedNode}
use Rattle.lu_trie.specs.Packed.{resolve}
use Rattle.lu_trie.proofs.FlatTrees.{packed-links, kept, added_packed, added_view, added_place, added_in_range}
use Rattle.lu_trie.proofs.packed.Table.push_node.Goals as goal

pub invariant_of-self-in_err-push : goal.invariant_of-self-in_err-push
invariant_of-self-in_err-push g c =
    let links = c.self.inside.links in
    let nodes = c.self.inside.nodes in
    let own = c.args.links.now in
    let linked = c.in_ok-extend_from_slice.ensures.items in
    rw (c.in_err-push.ensures.items, linked) (packed-links links.items own [] nodes.items c.self.invariant)

pub returns-in_err-push-clause-grows : goal.returns-in_err-push-clause-grows
returns-in_err-push-clause-grows g c =
    let links = c.self.inside.links in
    let nodes = c.self.inside.nodes in
    let own = c.args.links.now in
    let linked = c.in_ok-extend_from_slice.ensures.items in
    rw (c.in_err-push.ensures.items, linked) ([], kept links.items own nodes.items c.args.self.now c.self.view_is c.self.invariant ∙ sym (append-nil c.args.self.now))

pub invariant_of-self-2 : goal.invariant_of-self-2
invariant_of-self-2 g c =
    let links = c.self.inside.links in
    let nodes = c.self.inside.nodes in
    let own = c.args.links.now in
    let linked = c.in_ok-extend_from_slice.ensures.items in
    let bs = resolve c.args.self.now own in
    let first = c.len-first.ensures ∙ links.ok.0 in
    let node : PackedNode = record { ends = c.args.ends; first = c.len-first.result; count = length own } in
    rw (c.in_ok-push.ensures.items, linked) (added_packed links.items own nodes.items c.args.self.now c.self.view_is c.self.invariant node bs first refl c.requires.below refl c.requires.branches c.requires.serial)

pub returns-clause-grows : goal.returns-clause-grows
returns-clause-grows g c =
    let links = c.self.inside.links in
    let nodes = c.self.inside.nodes in
    let own = c.args.links.now in
    let linked = c.in_ok-extend_from_slice.ensures.items in
    let bs = resolve c.args.self.now own in
    let first = c.len-first.ensures ∙ links.ok.0 in
    let node : PackedNode = record { ends = c.args.ends; first = c.len-first.result; count = length own } in
    rw (c.in_ok-push.ensures.items, linked) (_, added_view links.items own nodes.items c.args.self.now c.self.view_is c.self.invariant node bs first refl c.requires.below refl c.requires.branches c.requires.serial)

pub returns-clause-place : goal.returns-clause-place
returns-clause-place g c =
    let links = c.self.inside.links in
    let nodes = c.self.inside.nodes in
    let own = c.args.links.now in
    let linked = c.in_ok-extend_from_slice.ensures.items in
    let bs = resolve c.args.self.now own in
    let first = c.len-first.ensures ∙ links.ok.0 in
    let node : PackedNode = record { ends = c.args.ends; first = c.len-first.result; count = length own } in
    rw (c.in_ok-push.ensures.items, linked, added_view links.items own nodes.items c.args.self.now c.self.view_is c.self.invariant node bs first refl c.requires.below refl c.requires.branches c.requires.serial, c.len-place.ensures, nodes.ok.0) (added_in_range links.items own nodes.items c.args.self.now c.self.view_is c.self.invariant node bs first refl c.requires.below refl c.requires.branches c.requires.serial)

pub returns-clause-members : goal.returns-clause-members
returns-clause-members g c =
    let links = c.self.inside.links in
    let nodes = c.self.inside.nodes in
    let own = c.args.links.now in
    let linked = c.in_ok-extend_from_slice.ensures.items in
    let bs = resolve c.args.self.now own in
    let first = c.len-first.ensures ∙ links.ok.0 in
    let node : PackedNode = record { ends = c.args.ends; first = c.len-first.result; count = length own } in
    rw (c.in_ok-push.ensures.items, linked, added_view links.items own nodes.items c.args.self.now c.self.view_is c.self.invariant node bs first refl c.requires.below refl c.requires.branches c.requires.serial, c.len-place.ensures, nodes.ok.0) (added_place links.items own nodes.items c.args.self.now c.self.view_is c.self.invariant node bs first refl c.requires.below refl c.requires.branches c.requires.serial)
