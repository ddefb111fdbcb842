use Rattle.std.proofs.Common.{inl, subst}
use Rattle.lu_answers.specs.declared.rounds.Rounds.TheVariants.{One}
use Rattle.lu_forever.specs.Certified.{IsRoundsVerdict}
use Rattle.lu_cli.proofs.at_once.certify_listed.Goals as goal

pub returns-in-Linearizable : goal.returns-in-Linearizable
returns-in-Linearizable g c =
    let component = c.args.test.component.now in
    let matrix = c.args.test.matrix.now in
    let found = subst (IsRoundsVerdict component One matrix c.serial-serial.result) c.in-Linearizable.is c.in_ok-certify_rounds.ensures in
    inl (rw c.serial-serial.ensures.serial at found, c.in_ok-answer-in-Linearizable.ensures)
