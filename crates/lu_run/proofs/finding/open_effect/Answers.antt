use Rattle.std.proofs.Common.{sym, subst}
use Rattle.lu_run.specs.Finding.{AreSound}
use Rattle.lu_run.proofs.Found.{all_later, sound_alike, sound_effect, sound_later, sound_pushed}
use Rattle.lu_run.proofs.finding.open_effect.Goals as goal

pub returns-in_ok-add-clause-opens : goal.returns-in_ok-add-clause-opens
returns-in_ok-add-clause-opens c = λ events first is all.
    let component = c.args.runs.component.now in
    let calls = c.args.runs.calls.now in
    let old = c.args.table.now in
    let new = c.take_effect.new.table in
    let learns = c.in_ok-to.ensures.learns in
    let from = c.args.from.now in
    let to = c.in-Some.to in
    let later = sound_later component calls events first old new learns.grows from is in
    subst (AreSound component calls events first new) (sym c.in_ok-add.ensures)
    (sound_pushed component calls events first new c.args.open.now.items c.with_last.result (all_later component calls events first old new learns.grows c.args.open.now.items all)
    (sound_alike component calls events first new to c.with_last.result c.with_last.ensures (sound_effect component calls events first new from to later c.args.thread learns.right c.requires.thread (rw (c.in-Some.is) at c.in_ok-to.ensures.effect))))

pub returns-in_default-clause-opens : goal.returns-in_default-clause-opens
returns-in_default-clause-opens c = λ events first is all.
    all_later c.args.runs.component.now c.args.runs.calls.now events first c.args.table.now c.take_effect.new.table c.in_ok-to.ensures.learns.grows c.args.open.now.items all
