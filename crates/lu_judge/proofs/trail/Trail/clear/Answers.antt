use Rattle.lu_judge.proofs.Plain.{cleared}
use Rattle.lu_judge.proofs.trail.Trail.clear.Goals as goal

pub invariant_of-self : goal.invariant_of-self
invariant_of-self g c =
    let members = g.T.SerialTree.members c.self.inside.tree.now in
    cleared members c.self.inside.is_plain c.clear-2.new.self c.clear.new.self c.clear-2.ensures c.clear.ensures.path (c.clear.ensures.good members c.self.invariant.good)
