use Rattle.std.proofs.lemmas.Result.{err_from_is_err_and}
use Rattle.lu_cli.specs.Shown.{IsRunShown}
use Rattle.lu_cli.proofs.Explained.{shown_answered, shown_refused}
use Rattle.lu_cli.proofs.shown.show_text.Goals as goal

pub returns-in_err-schedule : goal.returns-in_err-schedule
returns-in_err-schedule c =
    let p = err_from_is_err_and c.from_residual.result c.from_residual.ensures.1 in
    rw (p.1, p.2) (shown_refused c.args.text.now (IsRunShown c.args.view c.args.how c.args.test.component.now c.args.test.matrix.now) c.in_err-schedule.field-0.0 c.in_err-schedule.ensures.refused)

pub returns : goal.returns
returns c = shown_answered c.args.text.now (IsRunShown c.args.view c.args.how c.args.test.component.now c.args.test.matrix.now) c.in_ok-schedule.schedule c.in_ok-schedule.ensures.read c.in_ok-show_run.field-0 c.in_ok-show_run.ensures
