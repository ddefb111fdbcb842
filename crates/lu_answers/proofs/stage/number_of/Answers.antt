use Rattle.lu_answers.proofs.Storing.{converted, numbered, stage_there}
use Rattle.lu_answers.proofs.stage.number_of.Goals as goal

pub returns-clause-there : goal.returns-clause-there
returns-clause-there c =
    let stored = c.in_ok-place.ensures.stored in
    (c.in_ok-place.place, stage_there c.insert_full.new.self.keys c.args.stage c.in_ok-place.place stored.0 stored.1 stored.2)

pub returns-clause-number : goal.returns-clause-number
returns-clause-number c =
    let stored = c.in_ok-place.ensures.stored in
    numbered c.insert_full.new.self.keys c.args.stage c.ok.result c.in_ok-place.place (converted c.try_from.result c.in_ok-place.place c.try_from.ensures c.ok.result c.ok.ensures.value)
    (stage_there c.insert_full.new.self.keys c.args.stage c.in_ok-place.place stored.0 stored.1 stored.2)
