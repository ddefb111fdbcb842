use Rattle.std.proofs.Common.{◌≡◌, ℕ, List, ◌∙◌, ap}
use Rattle.std.specs.Prelude.{string_bytes}
use Rattle.std.proofs.lemmas.Result.{IfOk-weaker}
use Rattle.lu_recorded.specs.Reasons.{recorded_text}
use Rattle.lu_cli.specs.Runs.{unwitnessed}
use Rattle.lu_cli.specs.Witness.{IsShown}
use Rattle.lu_cli.proofs.witness.show_first.Goals as goal

pub returns : goal.returns
returns g c =
    let members = g.T.SerialTree.members c.args.tree.now in
    let n = c.args.number in
    let text = c.as_str.ensures.value ∙ c.in_ok-text.ensures in
    let reason = c.as_str-2.ensures.value in
    IfOk-weaker c.unwitnessed.result (λ a. a ≡ unwitnessed n c.as_str.result.now c.as_str-2.result.now) (IsShown members c.args.test.component.now c.args.test.matrix.now n c.args.recorded.now)
    (λ a is. (string_bytes c.in_ok-reason.reason, c.in_ok-reason.ensures, is ∙ ap (λ (t : List ℕ). unwitnessed n t c.as_str-2.result.now) text ∙ ap (λ (t : List ℕ). unwitnessed n (recorded_text c.args.recorded.now) t) reason))
    c.unwitnessed.ensures
