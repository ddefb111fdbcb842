use Rattle.std.proofs.Common.{refl}
use Rattle.std.proofs.lemmas.Result.{IfOk-weaker}
use Rattle.lu_lint.proofs.further.with_part.Goals as goal

pub returns-in-History : goal.returns-in-History
returns-in-History over c = rw c.in-History.is (IfOk-weaker c.with_histories.result _ _ (λ next is. (_, refl, is)) c.with_histories.ensures)

pub returns-in-Schedule : goal.returns-in-Schedule
returns-in-Schedule over c = rw c.in-Schedule.is (IfOk-weaker c.with_schedule.result _ _ (λ next is. (_, refl, is)) c.with_schedule.ensures)
