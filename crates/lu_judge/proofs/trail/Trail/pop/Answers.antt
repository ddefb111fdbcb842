use Rattle.std.proofs.Common.{sym, subst}
use Rattle.lu_judge.proofs.Plain.{among, popped}
use Rattle.lu_judge.specs.Trails.{IsTrail}
use Rattle.lu_judge.proofs.trail.Trail.pop.Goals as goal

pub invariant_of-self : goal.invariant_of-self
invariant_of-self g c =
    popped (g.T.SerialTree.members c.self.inside.tree.now) c.self.inside.is_plain c.self.inside.events c.pop.new.self c.self.inside.path c.pop.result c.if-self.true c.pop.ensures c.self.invariant

pub invariant_of-self-else-self : goal.invariant_of-self-else-self
invariant_of-self-else-self g c =
    let members = g.T.SerialTree.members c.self.inside.tree.now in
    subst (λ plain. IsTrail members plain c.self.inside.events c.pop-else-self.new.self) (sym c.if-self.false)
    (among members c.self.inside.events c.pop-else-self.new.self c.pop-else-self.ensures.path (c.pop-else-self.ensures.good members c.self.invariant.good))
