use Rattle.std.proofs.Common.{rules, ◌≡◌, true, not, Option, subst}
use Rattle.lu_certify.specs.declared.judged.Judged.{Judged}
use Rattle.lu_certify.specs.Certificates.{IsFailure, IsFullPass}
use Rattle.lu_certify.specs.Cuts.{IsJudgedFirst, IsLeftOpen}
use Rattle.lu_certify.proofs.Behind.{open_never_clear, open_never_fails, tried_either}
use Rattle.lu_certify.proofs.judging.judge_checked.Goals as goal

pub returns-in-None-clause-judged : goal.returns-in-None-clause-judged
returns-in-None-clause-judged g c =
    let passes : IsFailure c.args.report.finding → ⊥ = search rules in
    let less : IsFullPass c.args.report.finding → ⊥ = search rules in
    let then : not c.args.was_tried ≡ true → IsLeftOpen c.args.cut.component.now c.args.cut.limits c.args.cut.matrix.now =
    subst (λ (o : Option Judged). IsJudgedFirst (not c.args.was_tried) c.args.cut.component.now c.args.cut.limits c.args.cut.matrix.now o) c.in-None.is c.in_ok-judged.ensures.judged in
    let left = tried_either (IsLeftOpen c.args.cut.component.now c.args.cut.limits c.args.cut.matrix.now) c.args.was_tried c.requires.tried then in (
      c.requires.report,
      open_never_clear c.args.cut.component.now c.args.cut.matrix.now c.args.cut.limits c.args.cut.can_run.settles c.args.report c.requires.report less left,
      open_never_fails c.args.cut.component.now c.args.cut.matrix.now c.args.cut.limits c.args.cut.can_run.settles c.args.report c.requires.report passes left,
    )
