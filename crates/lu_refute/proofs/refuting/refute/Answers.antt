use Rattle.std.proofs.Common.{◌≡◌, ◌∙◌, ℕ, Option, Some, sym, subst}
use Rattle.std.specs.Prelude.{IsSomeAnd}
use Rattle.lu_replay.specs.Confirmed.{IsShownWith}
use Rattle.lu_refute.specs.Answers.{IsAnswerWith}
use Rattle.lu_refute.proofs.Outside.{answer_refutes, not_linearizable}
use Rattle.lu_machine.proofs.Starting.{start_there}
use Rattle.lu_refute.proofs.refuting.refute.Goals as goal

pub answer_to-requires-clause-shown : goal.answer_to-requires-clause-shown
answer_to-requires-clause-shown c =
    let some : c.args.report.now.serial ≡ Some c.in-Some.serial = sym c.serial.ensures.serial ∙ c.in-Some.is in
    let confirmed = c.in_ok-confirm.ensures.0 c.if-not-branch.false in
    subst (λ (o : Option ℕ). IsSomeAnd o (IsShownWith c.args.component.now c.args.matrix.now c.args.report.now)) some confirmed.1

pub returns-clause-answer : goal.returns-clause-answer
returns-clause-answer c =
    let some : c.args.report.now.serial ≡ Some c.in-Some.serial = sym c.serial.ensures.serial ∙ c.in-Some.is in
    subst (λ (o : Option ℕ). IsSomeAnd o (λ n. IsAnswerWith c.args.component.now c.args.matrix.now c.args.report.now n c.args.spec.now c.in_ok-answer_to.field-0)) (sym some) c.in_ok-answer_to.ensures

pub returns-clause-counterexample : goal.returns-clause-counterexample
returns-clause-counterexample c =
    let there = start_there c.args.component.now c.args.matrix.now c.requires.component.settles in
    let start = there.0 in
    answer_refutes c.args.component.now c.args.matrix.now start c.in-Some.serial c.args.spec.now c.args.report.now.finding c.in_ok-answer_to.field-0 there.1 (c.in_ok-answer_to.ensures start there.1)

pub returns-clause-refuted : goal.returns-clause-refuted
returns-clause-refuted c =
    let there = start_there c.args.component.now c.args.matrix.now c.requires.component.settles in
    let start = there.0 in
    not_linearizable c.args.component.now c.args.matrix.now c.args.spec.now c.in_ok-answer_to.field-0 c.requires.component.settles (
    answer_refutes c.args.component.now c.args.matrix.now start c.in-Some.serial c.args.spec.now c.args.report.now.finding c.in_ok-answer_to.field-0 there.1 (c.in_ok-answer_to.ensures start there.1))
