use Rattle.std.proofs.lemmas.Result.{err_from_is_err_and}
use Rattle.lu_run.proofs.Found.{attempt_later, opens_on}
use Rattle.lu_run.proofs.Learning.{fault_earlier, learns_on}
use Rattle.lu_run.proofs.finding.open_effects.Goals as goal

pub open_effect-requires-clause-from : goal.open_effect-requires-clause-from
open_effect-requires-clause-from c = attempt_later c.args.runs.calls.now c.args.table.now c.open_each_effect.new.table c.args.from.now c.in_ok-open_each_effect.ensures.learns.grows c.requires.from

pub returns-in_err-open_effect-in-Some-clause-offends : goal.returns-in_err-open_effect-in-Some-clause-offends
returns-in_err-open_effect-in-Some-clause-offends c =
    let p = err_from_is_err_and c.from_residual-in_err-open_effect-in-Some.result c.from_residual-in_err-open_effect-in-Some.ensures.1 in
    rw (p.1, p.2) (fault_earlier c.args.runs.component.now c.args.runs.calls.now c.args.runs.bound c.args.table.now c.open_each_effect.new.table c.in_err-open_effect-in-Some.field-0.0 c.in_ok-open_each_effect.ensures.learns c.in_err-open_effect-in-Some.ensures.offends)

pub returns-in_ok-open_effect-in-Some-clause-learns : goal.returns-in_ok-open_effect-in-Some-clause-learns
returns-in_ok-open_effect-in-Some-clause-learns c = learns_on c.args.runs.component.now c.args.runs.calls.now c.args.table.now c.open_each_effect.new.table c.open_effect.new.table c.in_ok-open_each_effect.ensures.learns c.in_ok-open_effect-in-Some.ensures.learns

pub returns-in_ok-open_effect-in-Some-clause-opens : goal.returns-in_ok-open_effect-in-Some-clause-opens
returns-in_ok-open_effect-in-Some-clause-opens c =
    let first = c.in_ok-open_each_effect.ensures in
    opens_on c.args.runs c.args.from.now c.args.table.now c.open_each_effect.new.table c.open_effect.new.table c.args.open.now c.open_each_effect.new.open c.open_effect.new.open first.learns.grows first.opens c.in_ok-open_effect-in-Some.ensures.opens
