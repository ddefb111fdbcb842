use Rattle.std.proofs.Common.{◌≡◌, false, sym, subst, ◌∙◌, ap}
use Rattle.std.specs.Prelude.{MatchBool, string_bytes}
use Rattle.std.proofs.lemmas.Result.{IfOk-weaker}
use Rattle.lu_witness.specs.Witnesses.{IsMember}
use Rattle.lu_explain.specs.Blocks.{HasOrder, IsBlock, Run}
use Rattle.lu_explain.specs.Lines.{explain_text}
use Rattle.lu_explain.proofs.blocks.block.Goals as goal

pub returns-else-is_witnessed : goal.returns-else-is_witnessed
returns-else-is_witnessed g c =
    let Set = IsMember (g.T.SerialTree.members c.args.tree.now) in
    let run = c.args.run.now in
    let part = c.args.part.now in
    let e = c.explain-explanation.result in
    let explained = explain_text run.component run.matrix part e in
    let none : e.witnessed ≡ false = sym c.is_witnessed.ensures ∙ c.if-is_witnessed.false in
    let told = c.in_ok-text.ensures ∙ ap (λ (r : Run). explain_text r.component r.matrix part e) c.run.view_is in
    IfOk-weaker c.with_any_order.result (λ grown. HasOrder Set run part (string_bytes c.in_ok-text.text) (string_bytes grown)) (λ grown. IsBlock Set run part (string_bytes grown))
    (λ grown has. (
      e,
      c.explain-explanation.ensures,
      subst (λ b. MatchBool b (string_bytes grown ≡ explained) (HasOrder Set run part explained (string_bytes grown))) (sym none) (subst (λ t. HasOrder Set run part t (string_bytes grown)) told has),
    ))
    c.with_any_order.ensures
