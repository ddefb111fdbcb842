use Rattle.std.proofs.Common.{arith, rules}
use Rattle.lu_lint.proofs.Signed.{goes_on, is_done}
use Rattle.lu_lint.proofs.signatures.signatures_from.Goals as goal

pub loop-before-preserved : goal.loop-before-preserved
loop-before-preserved c = goes_on c.args.faulty.now c.args.ops.now c.loop-before.before _ _ _ _ _ _ (omega arith) c.index-ops-before.is c.split_at.ensures.back c.in_ok-signatures.ensures c.loop-before.invariant

pub returns-in-None : goal.returns-in-None
returns-in-None c = is_done c.args.faulty.now c.args.ops.now c.loop-before.before _ _ _ (omega arith) (search rules) c.loop-before.invariant

pub returns-in_ok-push-in-Some : goal.returns-in_ok-push-in-Some
returns-in_ok-push-in-Some c = is_done c.args.faulty.now c.args.ops.now c.loop-before.before _ _ _ (omega arith) (search rules) c.loop-before.invariant
