use Rattle.std.proofs.Common.{List, inl, subst}
use Rattle.std.proofs.lemmas.Option.{IfSome_then}
use Rattle.std.proofs.lemmas.Result.{err_from_is_err_and}
use Rattle.lu_text.specs.Lines.{texts}
use Rattle.lu_history.specs.declared.serial.SerialOp.{SerialOp}
use Rattle.lu_recorded.specs.declared.recorded.Recorded.{Recorded}
use Rattle.lu_cli.specs.Witness.{IsJudgedAgainstTexts, IsJudgedByMembers}
use Rattle.lu_cli.specs.Reading.{ToRecorded}
use Rattle.lu_cli.specs.Refusals.{history_answer}
use Rattle.lu_cli.proofs.Judged.{recorded_refused}
use Rattle.lu_cli.proofs.Refuted.{given_refused}
use Rattle.lu_cli.proofs.witness.judge_texts_against.Goals as goal

pub returns-in_err-specification : goal.returns-in_err-specification
returns-in_err-specification c =
    let p = err_from_is_err_and c.from_residual.result c.from_residual.ensures.1 in
    rw (p.1, p.2)
    (given_refused c.args.marks c.args.test.matrix.now c.args.spec.now c.in_err-specification.field-0.0
    (λ members. ToRecorded c.args.test.matrix.now (texts c.args.histories.now) (IsJudgedByMembers members c.args.test.component.now c.args.test.matrix.now)) c.in_err-specification.ensures.fault)

pub returns-in_err-all : goal.returns-in_err-all
returns-in_err-all c =
    let p = err_from_is_err_and c.from_residual-in_err-all.result c.from_residual-in_err-all.ensures.1 in
    let fault = c.in_err-all.field-0.0 in
    let set = c.in_ok-specification in
    let refused = recorded_refused c.args.test.matrix.now (texts c.args.histories.now) fault (IsJudgedByMembers set.specification c.args.test.component.now c.args.test.matrix.now) c.in_err-all.ensures.refused in
    rw (p.1, p.2)
    (IfSome_then (history_answer fault.number fault.fault) {Q = IsJudgedAgainstTexts c.args.test.component.now c.args.test.matrix.now c.args.marks c.args.spec.now (texts c.args.histories.now)} refused
    (λ a is. inl (set.specification, set.ensures.read, is)))

pub returns : goal.returns
returns c =
    let set = c.in_ok-specification in
    let by = subst (λ (x : List (List SerialOp)). IsJudgedByMembers x c.args.test.component.now c.args.test.matrix.now c.deref.result.now c.in_ok-judge_by.field-0) c.tree.ensures.set c.in_ok-judge_by.ensures in
    let judged = subst (λ (x : List Recorded). IsJudgedByMembers set.specification c.args.test.component.now c.args.test.matrix.now x c.in_ok-judge_by.field-0) c.deref.ensures.value by in
    inl (set.specification, set.ensures.read, inl (c.in_ok-all.all.items, c.in_ok-all.ensures.read, judged))
