use Rattle.std.proofs.Common.{List, inl, subst}
use Rattle.lu_recorded.specs.declared.recorded.Recorded.{Recorded}
use Rattle.std.proofs.lemmas.Result.{err_from_is_err_and}
use Rattle.lu_text.specs.Lines.{texts}
use Rattle.lu_cli.specs.Witness.{IsJudgedSerially}
use Rattle.lu_cli.proofs.Judged.{recorded_refused}
use Rattle.lu_cli.proofs.witness.judge_texts.Goals as goal

pub returns-in_err-all : goal.returns-in_err-all
returns-in_err-all c =
    let p = err_from_is_err_and c.from_residual.result c.from_residual.ensures.1 in
    rw (p.1, p.2)
    (recorded_refused c.args.test.matrix.now (texts c.args.histories.now) c.in_err-all.field-0.0 (IsJudgedSerially c.args.test.component.now c.args.test.matrix.now c.args.bounds) c.in_err-all.ensures.refused)

pub returns : goal.returns
returns c =
    let judged = subst (λ (x : List Recorded). IsJudgedSerially c.args.test.component.now c.args.test.matrix.now c.args.bounds x c.in_ok-judge_serially.field-0) c.deref.ensures.value c.in_ok-judge_serially.ensures in
    inl (c.in_ok-all.all.items, c.in_ok-all.ensures.read, judged)
