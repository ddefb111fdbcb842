use Rattle.lu_witness.specs.Witnesses.{IsMember, IsVerdict}
use Rattle.lu_witness.specs.declared.judgement.Verdict.TheVariants.{NoWitness, NoWitnessFor}
use Rattle.lu_witness.proofs.Endings.{judged_complete, judged_stuck, judged_bad, judged_without}
use Rattle.lu_tree.proofs.node.Node.why_bad.Goals as goal

pub returns-in-NoWitness-clause-bad : goal.returns-in-NoWitness-clause-bad
returns-in-NoWitness-clause-bad g c =
    let Set = IsMember (g.T.SerialTree.members c.args.self.now.trail.tree) in
    let s = c.args.self.now.machine in
    let h = c.args.self.now.trail.history in
    let is : IsVerdict Set h NoWitness = rw c.in-NoWitness.is at c.in_ok-judge.ensures.verdict in
    (judged_bad s h c.requires.agree c.judge.ensures.well_formed Set c.requires.ended is, judged_complete s h c.requires.agree c.judge.ensures.well_formed Set c.requires.ended is)

pub returns-in-NoWitnessFor-clause-bad : goal.returns-in-NoWitnessFor-clause-bad
returns-in-NoWitnessFor-clause-bad g c =
    let Set = IsMember (g.T.SerialTree.members c.args.self.now.trail.tree) in
    let s = c.args.self.now.machine in
    let h = c.args.self.now.trail.history in
    let t = c.in-NoWitnessFor.thread in
    let is : IsVerdict Set h (NoWitnessFor t) = rw c.in-NoWitnessFor.is at c.in_ok-judge.ensures.verdict in (
      judged_without s h c.requires.agree c.judge.ensures.well_formed Set c.requires.ended t is,
      (judged_stuck s h c.requires.agree c.judge.ensures.well_formed Set c.requires.ended t is, is),
    )
