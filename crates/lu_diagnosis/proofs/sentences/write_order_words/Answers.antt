use Rattle.std.proofs.Common.{rules}
use Rattle.lu_diagnosis.proofs.SerialRun.{order_many}
use Rattle.lu_diagnosis.proofs.sentences.write_order_words.Goals as goal

pub returns-in_default : goal.returns-in_default
returns-in_default c = rw (order_many c.args.component.now c.args.matrix.now c.args.order.now c.in_default.len_at_least) (search rules)
