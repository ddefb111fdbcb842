use Rattle.lu_late.proofs.Blocked.{blocked_end_by_calls}
use Rattle.lu_late.proofs.Judged.{judged_before}
use Rattle.lu_late.proofs.laws.last_call_laws.Goals as goal

pub returns : goal.returns
returns _ = record {
  ends = blocked_end_by_calls;
  before = judged_before;
}
