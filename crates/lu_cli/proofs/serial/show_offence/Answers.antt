use Rattle.std.proofs.Common.{◌≡◌, ℕ, Some, ap, subst}
use Rattle.std.specs.Prelude.{IfOk}
use Rattle.std.proofs.lemmas.Result.{IfOk-weaker}
use Rattle.lu_machine.proofs.Starting.{start_there}
use Rattle.lu_report.specs.Parts.{Report, parts_of}
use Rattle.lu_replay.proofs.Limits.{finding_within}
use Rattle.lu_cli.specs.Serial.{IsOffenceReported}
use Rattle.lu_cli.specs.Shows.{reported}
use Rattle.lu_cli.proofs.serial.show_offence.Goals as goal

pub new-requires-clause-within : goal.new-requires-clause-within
new-requires-clause-within c =
    let there = start_there c.args.test.component.now c.args.test.matrix.now c.args.test.can_run.settles in
    finding_within c.args.test.component.now c.args.test.matrix.now there.0 c.requires.limits there.1 c.args.bounds.bound c.args.bounds.serial c.args.finding (c.requires.found there.0 there.1)

pub returns : goal.returns
returns c =
    let made : Report = parts_of c.bound.result (Some c.serial.result) c.local.result c.args.finding in
    let shown = subst (λ (r : Report). IfOk c.show_report-2.result (λ answer. answer ≡ reported r)) c.new.ensures c.show_report-2.ensures in
    IfOk-weaker c.show_report-2.result (λ answer. answer ≡ reported made) (IsOffenceReported c.args.test.component.now c.args.test.matrix.now c.args.bounds)
    (λ answer is. (made, (c.bound.ensures.bound, ap (λ (n : ℕ). Some n) c.serial.ensures.serial, c.local.ensures.local, c.requires.found), c.requires.offence, is)) shown
