use Rattle.std.proofs.Common.{arith}
use Rattle.lu_refine.specs.ByThread.{asked_of}
use Rattle.lu_refine.proofs.Passing.{whole_chosen}
use Rattle.lu_refine.proofs.campaigning.campaign_by_thread_with_progress.Goals as goal

pub returns-clause-answer : goal.returns-clause-answer
returns-clause-answer g c =
    whole_chosen (asked_of c.args.roles) _ c.campaign_slice_with_progress.result (omega arith) c.campaign_slice_with_progress.ensures.answer
