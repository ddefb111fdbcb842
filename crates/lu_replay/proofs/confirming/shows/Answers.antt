use Rattle.std.proofs.Common.{◌≡◌, ◌∙◌, sym, subst}
use Rattle.std.specs.Prelude.{IsTrue, ◌↔◌}
use Rattle.lu_report.specs.declared.report.Finding.{Finding}
use Rattle.lu_report.specs.declared.report.Finding.TheVariants.{Pass}
use Rattle.std.proofs.lemmas.Result.{IfOk-weaker}
use Rattle.lu_machine.specs.States.{State}
use Rattle.lu_machine.proofs.Starting.{start_there}
use Rattle.lu_replay.specs.Confirmed.{IsShown, IsShownWith}
use Rattle.lu_replay.proofs.RunsAnew.{shown_from}
use Rattle.lu_replay.proofs.confirming.shows.Goals as goal

pub returns : goal.returns
returns c =
    let there = start_there c.args.test.component.now c.args.test.matrix.now c.args.test.can_run.settles in
    let start : State = there.0 in
    let h = c.is_shown.ensures start c.args.serial there.1 (c.in_ok-learnt.ensures.learnt start there.1) in
    IfOk-weaker c.is_shown.result
    (λ answer. IsTrue answer ↔ IsShown start c.bound-bound.result c.args.serial c.finding-2.result.now)
    (λ answer. IsTrue answer ↔ IsShownWith c.args.test.component.now c.args.test.matrix.now c.args.report.now c.args.serial)
    (λ answer x. shown_from c.args.test.component.now c.args.test.matrix.now c.args.report.now c.bound-bound.result c.finding-2.result.now answer c.bound-bound.ensures.bound c.finding-2.ensures.finding start there.1 c.args.serial x)
    h

pub returns-in-Pass : goal.returns-in-Pass
returns-in-Pass c =
    let start = start_there c.args.test.component.now c.args.test.matrix.now c.args.test.can_run.settles in
    let pass : c.args.report.now.finding ≡ Pass c.in-Pass.field-0 = sym c.finding.ensures.finding ∙ c.in-Pass.is in (
      λ e. absurd cc,
      λ shown. absurd (subst (λ (f : Finding). IsShown start.0 c.args.report.now.bound c.args.serial f) pass (shown start.0 start.1)),
    )
