use Rattle.std.proofs.Common.{refl, ap}
use Rattle.std.specs.Result.{result_ok}
use Rattle.lu_run.proofs.Learning.{converted, numbered}
use Rattle.lu_run.proofs.table.number_of.Goals as goal

pub returns-in-Ok-clause-number : goal.returns-in-Ok-clause-number
returns-in-Ok-clause-number c =
    let stored = c.in_ok-place.ensures.stored in
    let place = converted c.try_from.result c.in_ok-place.place c.try_from.ensures (result_ok c.try_from.result) refl c.in-Ok.number (ap result_ok c.in-Ok.is) in
    numbered c.insert_full.new.self.keys c.args.rests c.in_ok-place.place c.in-Ok.number stored.0 place stored.1 stored.2
