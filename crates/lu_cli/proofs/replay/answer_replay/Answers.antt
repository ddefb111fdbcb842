use Rattle.std.proofs.Common.{◌≡◌, Some, rules}
use Rattle.std.proofs.lemmas.Result.{err_from_is_err_and}
use Rattle.lu_text.specs.Lines.{texts}
use Rattle.lu_text.specs.Words.{exactly_three}
use Rattle.lu_test.specs.ScheduleText.{schedule_of}
use Rattle.lu_cli.specs.Reading.{ToSchedule}
use Rattle.lu_cli.specs.Replay.{IsReplayed}
use Rattle.lu_cli.proofs.Refuted.{texts_refused}
use Rattle.lu_cli.proofs.replay.answer_replay.Goals as goal

pub returns-in_err-case : goal.returns-in_err-case
returns-in_err-case c =
    let p = c.in_ok-component in
    let refused = err_from_is_err_and c.from_residual-in_err-case.result c.from_residual-in_err-case.ensures.1 in
    let parts : exactly_three (texts c.args.parts.now) ≡ Some (p.component.now, p.matrix.now, p.schedule.now) = search rules in
    rw (refused.1, refused.2, parts) (texts_refused p.component.now p.matrix.now c.in_err-case.field-0.0 (λ d m. ToSchedule (schedule_of p.schedule.now) (IsReplayed d m)) c.in_err-case.ensures.fault)
