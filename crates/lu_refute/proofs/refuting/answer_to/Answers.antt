use Rattle.std.proofs.Common.{List, None, sym, subst, ◌∙◌}
use Rattle.std.proofs.lemmas.Result.{IfOk-weaker}
use Rattle.lu_history.specs.declared.serial.SerialOp.{SerialOp}
use Rattle.lu_machine.specs.States.{State}
use Rattle.lu_machine.specs.Starts.{IsStart}
use Rattle.lu_machine.proofs.Starting.{start_matrix}
use Rattle.lu_serial.specs.Offences.{IsFirstOutside}
use Rattle.lu_refute.specs.Answers.{IsAnswerWith, IsOutsideAnswer}
use Rattle.lu_refute.specs.Walks.{IsFromOutside}
use Rattle.lu_refute.proofs.Answering.{none_own, outside_answer, own_answer, own_found, some_outside}
use Rattle.lu_refute.proofs.refuting.answer_to.Goals as goal

pub from_outside-requires-clause-outside : goal.from_outside-requires-clause-outside
from_outside-requires-clause-outside c =
    λ (s : State) (is : IsStart c.args.test.component.now c.args.test.matrix.now s) none.
    let not_own = none_own c.args.test s is c.tree-set.result.now c.args.spec.now c.tree-set.ensures.set c.finding.result.now c.args.report.now.finding c.finding.ensures.finding c.in_ok-schedule.field-0 c.in-None.is c.in_ok-schedule.ensures in
    let inside : IsFirstOutside s c.args.serial c.args.spec.now None = subst (λ (x : List (List SerialOp)). IsFirstOutside s c.args.serial x None) c.tree-set.ensures.set none in
    some_outside c.args.test.component.now c.args.test.matrix.now s is c.args.spec.now c.tree-set.ensures.sound c.requires.spec c.args.report.now.bound c.args.serial c.args.report.now.finding c.requires.failure (c.requires.shown s is) not_own inside

pub returns-in_ok-copy_matrix-in-Some : goal.returns-in_ok-copy_matrix-in-Some
returns-in_ok-copy_matrix-in-Some c =
    λ (s : State) (is : IsStart c.args.test.component.now c.args.test.matrix.now s).
    own_answer s c.args.serial c.args.spec.now c.args.report.now.finding c.in-Some.schedule c.in_ok-copy_matrix-in-Some.field-0
    (own_found c.args.test s is c.tree-set.result.now c.args.spec.now c.tree-set.ensures.set c.finding.result.now c.args.report.now.finding c.finding.ensures.finding c.in_ok-schedule.field-0 c.in-Some.schedule c.in-Some.is c.in_ok-schedule.ensures)
    (c.in_ok-copy_matrix-in-Some.ensures ∙ sym (start_matrix c.args.test.component.now c.args.test.matrix.now s is))

pub returns-in-None : goal.returns-in-None
returns-in-None c =
    IfOk-weaker c.from_outside.result (IsFromOutside c.args.test c.args.serial c.tree-set.result.now) (IsAnswerWith c.args.test.component.now c.args.test.matrix.now c.args.report.now c.args.serial c.args.spec.now)
    (λ answer outside s is.
    let not_own = none_own c.args.test s is c.tree-set.result.now c.args.spec.now c.tree-set.ensures.set c.finding.result.now c.args.report.now.finding c.finding.ensures.finding c.in_ok-schedule.field-0 c.in-None.is c.in_ok-schedule.ensures in
    let here : IsOutsideAnswer s c.args.serial c.args.spec.now answer = subst (λ (x : List (List SerialOp)). IsOutsideAnswer s c.args.serial x answer) c.tree-set.ensures.set (outside s is) in
    outside_answer s c.args.serial c.args.spec.now c.args.report.now.finding answer c.requires.failure not_own here)
    c.from_outside.ensures
