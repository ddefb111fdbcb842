use Rattle.std.proofs.Common.{get_or, arith}
use Rattle.lu_explain.proofs.Leasts.{past_none}
use Rattle.lu_explain.proofs.least_order.is_next_outcome.Goals as goal

pub returns-then-op-ge8-clause-next : goal.returns-then-op-ge8-clause-next
returns-then-op-ge8-clause-next c = (λ e. cc, λ at. absurd (past_none c.args.history.now c.requires c.args.op.thread (get_or c.args.taken.now c.args.op.thread 0) c.args.op.outcome (omega arith) at))
