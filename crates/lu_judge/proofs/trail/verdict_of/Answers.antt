use Rattle.std.proofs.Common.{refl}
use Rattle.lu_witness.proofs.Right.{moved_verdict}
use Rattle.lu_judge.proofs.trail.verdict_of.Goals as goal

pub returns-clause-verdict : goal.returns-clause-verdict
returns-clause-verdict g c =
    moved_verdict _ (g.T.SerialTree.members c.args.tree.now) _ _ c.verdict.result refl c.in_ok-refill.ensures c.verdict.ensures.verdict
