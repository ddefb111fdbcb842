use Rattle.std.proofs.lemmas.Result.{IfOk-weaker}
use Rattle.lu_cli.specs.Unrolled.{IsVerdictOn, ShowsVerdict}
use Rattle.lu_cli.proofs.unrolled.certify_all.Goals as goal

pub returns : goal.returns
returns g c =
    let component = c.args.test.component.now in
    let matrix = c.args.test.matrix.now in
    let asked = c.args.asked in
    let found = c.in_ok-found.found in
    let is = rw (c.rounds_of-rounds.ensures, c.serial-serial.ensures.serial) at c.in_ok-found.ensures in
    IfOk-weaker c.show_verdict.result (ShowsVerdict component matrix asked c.args.repetition found) (IsVerdictOn component matrix asked c.args.repetition)
    (λ answer shows. (found, is, shows)) c.show_verdict.ensures
