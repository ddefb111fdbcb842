use Rattle.lu_run.proofs.Learning.{converted}
use Rattle.lu_run.proofs.Saying.{found_number}
use Rattle.lu_run.proofs.reading.number_of.Goals as goal

pub returns-clause-number : goal.returns-clause-number
returns-clause-number c =
    let stored = c.in_ok-place.ensures.stored in
    found_number c.insert_full.new.self.keys c.args.key c.ok.result c.in_ok-place.place (converted c.try_from.result c.in_ok-place.place c.try_from.ensures c.ok.result c.ok.ensures.value) stored.0 stored.1 stored.2
