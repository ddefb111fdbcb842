use Rattle.std.proofs.Common.{◌≡◌, ◌∙◌, ℕ, List, ap, string_bytes, subst}
use Rattle.std.proofs.lemmas.Result.{IfOk-weaker}
use Rattle.lu_report.specs.declared.report.Finding.{Finding}
use Rattle.lu_cli.specs.Failing.{IsFindingExplained, ShowsRun, below, in_words}
use Rattle.lu_cli.specs.Shows.{two_texts}
use Rattle.lu_cli.specs.declared.explanation.Presentation.TheVariants.{Words}
use Rattle.lu_cli.specs.declared.failing.View.{View}
use Rattle.lu_cli.specs.declared.failing.View.TheVariants.{Explanation}
use Rattle.lu_cli.proofs.failing.show_failing.Goals as goal

pub returns-in_ok-below-in-Explanation : goal.returns-in_ok-below-in-Explanation
returns-in_ok-below-in-Explanation c =
    let how = c.args.how in
    let component = c.args.test.component.now in
    let cut = c.args.test.matrix.now in
    let report = c.args.report.now in
    let u = c.args.schedule.now in
    let why = c.in_ok-why-in-Explanation.why in
    let spelt : string_bytes c.in_ok-below-in-Explanation.field-0 ≡ below (two_texts component cut report) why = c.in_ok-below-in-Explanation.ensures ∙ ap (λ (t : List ℕ). below t why) c.in_ok-text-in-Explanation.ensures in
    let explained : IsFindingExplained (in_words Words how) component cut report.finding why = subst (λ (f : Finding). IsFindingExplained (in_words Words how) component cut f why) c.finding-finding.ensures.finding c.in_ok-why-in-Explanation.ensures in
    rw c.in-Explanation.is (IfOk-weaker c.show_run.result _ _ (λ answer shows. (why, explained, subst (λ (t : List ℕ). ShowsRun Explanation how component cut u t answer) spelt (subst (λ (v : View). ShowsRun v how component cut u (string_bytes c.in_ok-below-in-Explanation.field-0) answer) c.in-Explanation.is shows))) c.show_run.ensures)
