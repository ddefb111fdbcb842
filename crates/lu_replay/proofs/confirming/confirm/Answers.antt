use Rattle.std.proofs.Common.{◌≡◌, ◌∙◌, None, Some, sym}
use Rattle.std.specs.Prelude.{IsTrue, ◌↔◌}
use Rattle.std.proofs.lemmas.Result.{IfOk-weaker}
use Rattle.lu_replay.specs.Confirmed.{IsShownWith, IsConfirmed}
use Rattle.lu_replay.proofs.RunsAnew.{confirmed_with, none_confirmed}
use Rattle.lu_replay.proofs.confirming.confirm.Goals as goal

pub returns-in-None : goal.returns-in-None
returns-in-None c =
    let none : c.args.report.now.serial ≡ None = sym c.serial.ensures.serial ∙ c.in-None.is in
    (λ e. absurd cc, λ x. absurd (none_confirmed c.args.component.now c.args.matrix.now c.args.report.now none x))

pub returns-in-Some : goal.returns-in-Some
returns-in-Some c =
    let same = c.says_local.ensures.0 c.if-not-says_local.false in
    let some : c.args.report.now.serial ≡ Some c.in-Some.serial = sym c.serial.ensures.serial ∙ c.in-Some.is in
    IfOk-weaker c.shows.result
    (λ answer. IsTrue answer ↔ IsShownWith c.args.component.now c.args.matrix.now c.args.report.now c.in-Some.serial)
    (λ answer. IsTrue answer ↔ IsConfirmed c.args.component.now c.args.matrix.now c.args.report.now)
    (λ answer h. confirmed_with c.args.component.now c.args.matrix.now c.args.report.now c.in-Some.serial answer same some h)
    c.shows.ensures
