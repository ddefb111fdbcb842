use Rattle.lu_judge.proofs.Plain.{among}
use Rattle.lu_judge.proofs.trail.Trail.new.Goals as goal

pub invariant_of-result : goal.invariant_of-result
invariant_of-result g c =
    let members = g.T.SerialTree.members c.args.tree.now in
    among members c.new-2.result c.in_ok-new.field-0 c.in_ok-new.ensures.path (c.in_ok-new.ensures.good members)
