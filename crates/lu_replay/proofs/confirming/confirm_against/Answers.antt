use Rattle.std.proofs.Common.{◌≡◌, ◌∙◌, None, sym}
use Rattle.std.specs.Prelude.{IsTrue, ◌↔◌}
use Rattle.std.proofs.lemmas.Result.{IfOk-weaker}
use Rattle.lu_machine.specs.States.{State}
use Rattle.lu_machine.proofs.Starting.{start_there}
use Rattle.lu_witness.specs.Witnesses.{IsMember}
use Rattle.lu_replay.specs.Confirmed.{IsShownAgainst, IsConfirmedAgainst}
use Rattle.lu_replay.proofs.RunsAnew.{against_from}
use Rattle.lu_replay.proofs.confirming.confirm_against.Goals as goal

pub returns-in-None : goal.returns-in-None
returns-in-None g c =
    let same = c.says_local.ensures.0 c.if-not-says_local.false in
    let none : c.args.report.now.serial ≡ None = sym c.serial.ensures.serial ∙ c.in-None.is in
    let there = start_there c.args.component.now c.args.matrix.now c.requires.settles in
    let start : State = there.0 in
    IfOk-weaker c.is_shown_against.result
    (λ answer. IsTrue answer ↔ IsShownAgainst (IsMember (g.T.SerialTree.members c.args.tree.now)) start c.bound-bound.result c.finding.result.now)
    (λ answer. IsTrue answer ↔ IsConfirmedAgainst (IsMember (g.T.SerialTree.members c.args.tree.now)) c.args.component.now c.args.matrix.now c.args.report.now)
    (λ answer h. against_from c.args.component.now c.args.matrix.now c.args.report.now c.bound-bound.result c.finding.result.now answer c.bound-bound.ensures.bound c.finding.ensures.finding start there.1 (IsMember (g.T.SerialTree.members c.args.tree.now)) same none h)
    (c.is_shown_against.ensures start there.1)

pub returns-in-Some : goal.returns-in-Some
returns-in-Some g c = (λ e. absurd cc, λ x. let some = sym c.serial.ensures.serial ∙ c.in-Some.is in let none = x.1 in absurd cc)
