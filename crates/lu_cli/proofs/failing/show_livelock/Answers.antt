use Rattle.std.proofs.Common.{List, ℕ, string_bytes, subst}
use Rattle.std.proofs.lemmas.Result.{IfOk-weaker}
use Rattle.lu_cli.specs.Failing.{ShowsRun}
use Rattle.lu_cli.specs.declared.failing.View.{View}
use Rattle.lu_cli.specs.declared.failing.View.TheVariants.{Explanation}
use Rattle.lu_cli.proofs.failing.show_livelock.Goals as goal

pub returns-in_ok-below-in-Explanation : goal.returns-in_ok-below-in-Explanation
returns-in_ok-below-in-Explanation c =
    let how = c.args.how in
    let component = c.args.test.component.now in
    let cut = c.args.test.matrix.now in
    let u = c.args.schedule.now in
    let why = c.in_ok-why-in-Explanation.why in
    rw c.in-Explanation.is (IfOk-weaker c.show_run.result _ _ (λ answer shows. (why, c.in_ok-why-in-Explanation.ensures, subst (λ (t : List ℕ). ShowsRun Explanation how component cut u t answer) c.in_ok-below-in-Explanation.ensures (subst (λ (v : View). ShowsRun v how component cut u (string_bytes c.in_ok-below-in-Explanation.field-0) answer) c.in-Explanation.is shows))) c.show_run.ensures)
