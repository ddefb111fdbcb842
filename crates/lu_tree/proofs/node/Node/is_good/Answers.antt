use Rattle.lu_witness.specs.Witnesses.{IsMember, IsVerdict}
use Rattle.lu_witness.specs.declared.judgement.Verdict.TheVariants.{Good}
use Rattle.lu_witness.proofs.Endings.{judged_good}
use Rattle.lu_tree.proofs.node.Node.is_good.Goals as goal

pub returns-in-Ok-Good-clause-good : goal.returns-in-Ok-Good-clause-good
returns-in-Ok-Good-clause-good g c = λ _.
    (let Set = IsMember (g.T.SerialTree.members c.args.self.now.trail.tree) in
    let is : IsVerdict Set c.args.self.now.trail.history Good = rw c.in-Ok-Good.field-0-is at c.in-Ok-Good.ensures.verdict in
    judged_good c.args.self.now.machine c.args.self.now.trail.history c.requires.agree c.judge.ensures.well_formed Set c.requires.ended is)
