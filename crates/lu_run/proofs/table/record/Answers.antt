use Rattle.lu_run.proofs.Learning.{records_by}
use Rattle.lu_run.proofs.table.record.Goals as goal

pub returns : goal.returns
returns c = records_by c.args.answers.now c.insert.new.self c.args.question c.args.step c.in_ok-insert.ensures.updates.0
