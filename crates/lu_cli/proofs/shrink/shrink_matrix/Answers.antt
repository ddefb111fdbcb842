use Rattle.lu_cli.proofs.Reported.{left_shown, not_failing}
use Rattle.lu_cli.proofs.shrink.shrink_matrix.Goals as goal

pub returns-in-Err-NotFailing : goal.returns-in-Err-NotFailing
returns-in-Err-NotFailing c =
    not_failing c.args.test.component.now c.args.test.matrix.now c.args.bounds c.bound.result c.serial.result c.bound.ensures.bound c.serial.ensures.serial
    _ c.in-Err-NotFailing.report c.in-Err-NotFailing.field-0-is c.in-Err-NotFailing.ensures.fault c.show_report.result (rw c.in-Err-NotFailing.field-0-is at c.show_report.ensures)

pub returns-in-Ok : goal.returns-in-Ok
returns-in-Ok c =
    left_shown c.args.test.component.now c.args.test.matrix.now c.args.bounds c.bound.result c.serial.result c.bound.ensures.bound c.serial.ensures.serial
    c.in-Ok.smaller c.in-Ok.report c.in-Ok.ensures.shrunk c.show_matrix.result c.show_matrix.ensures
