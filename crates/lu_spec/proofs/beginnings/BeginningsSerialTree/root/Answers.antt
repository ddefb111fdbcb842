use Rattle.std.proofs.Common.{subst}
use Rattle.lu_spec.proofs.Deepened.{beginnings_branch}
use Rattle.lu_spec.proofs.beginnings.BeginningsSerialTree.root.Goals as goal

pub returns-clause-place : goal.returns-clause-place
returns-clause-place g c =
    let here = subst (λ tree. g.T.SerialTree.is_place tree c.root.result) c.self.view_is c.root.ensures.place in
    (here, beginnings_branch (g.T.SerialTree.below c.args.self.now c.root.result) (g.met.T.SerialTree.branching c.args.self.now c.root.result here))
