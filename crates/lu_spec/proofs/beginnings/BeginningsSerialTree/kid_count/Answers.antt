use Rattle.std.proofs.Common.{length, sym, ap, ◌∙◌}
use Rattle.lu_trie.specs.Branches.{branches_of}
use Rattle.lu_spec.proofs.Deepened.{as_many_branches}
use Rattle.lu_spec.proofs.beginnings.BeginningsSerialTree.kid_count.Goals as goal

pub returns : goal.returns
returns g c =
    let law = g.met.T.SerialTree.branching c.args.self.now c.args.place c.requires.0 in
    c.kid_count.ensures
    ∙ ap (λ tree. length (branches_of (g.T.SerialTree.below tree c.args.place))) c.self.view_is
    ∙ sym (as_many_branches (g.T.SerialTree.below c.args.self.now c.args.place) law)
