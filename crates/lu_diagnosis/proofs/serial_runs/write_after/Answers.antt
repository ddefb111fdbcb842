use Rattle.std.proofs.Common.{rules}
use Rattle.lu_diagnosis.proofs.SerialRun.{after_many}
use Rattle.lu_diagnosis.proofs.serial_runs.write_after.Goals as goal

pub returns-in_default : goal.returns-in_default
returns-in_default c = rw (after_many c.args.component.now c.args.matrix.now c.args.before.now c.in_default.len_at_least) (search rules)
