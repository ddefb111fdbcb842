use Rattle.std.proofs.Common.{◌∙◌, ap}
use Rattle.lu_run.specs.Judging.{first_effect}
use Rattle.lu_run.proofs.Expected.{expected_told}
use Rattle.lu_run.proofs.judging.expected_outcome.Goals as goal

pub returns-clause-expects : goal.returns-clause-expects
returns-clause-expects c = λ setup all rest s start starts run cut.
    let f = c.in_ok-all.all.follower in
    expected_told c.args.runs.component.now s c.args.runs.calls.now all c.args.events.now c.follow_all.new.table f.pending f.monitor (c.in_ok-all.ensures.follows setup all rest s start starts run cut) c.args.thread c.first_effect.result
    (c.first_effect.ensures ∙ ap (first_effect c.args.thread) c.configurations.ensures)
