use Rattle.std.proofs.Common.{◌∙◌, ℕ, List, ap, length, subst, sym}
use Rattle.std.proofs.lemmas.List.{length-map}
use Rattle.std.proofs.lemmas.Result.{IfOk-weaker}
use Rattle.lu_text.specs.Lines.{lines_of}
use Rattle.lu_cli.specs.Lint.{AreRemarksOn, remarks_below}
use Rattle.lu_cli.proofs.lint.remarks_after.Goals as goal

pub returns : goal.returns
returns c =
    let all = c.in_ok-remarks.remarks.items in
    let spelt = c.deref.ensures.value ∙ c.in_ok-bundle.ensures in
    let are = subst (λ (b : List ℕ). AreRemarksOn c.args.asked b all) spelt c.in_ok-remarks.ensures in
    let lines = c.len-lines.ensures ∙ c.in_ok-lines_of.field-0.ok.0 ∙ sym (length-map _ (λ w. w.now)) ∙ ap length c.in_ok-lines_of.ensures ∙ ap (λ (t : List ℕ). length (lines_of t)) (c.as_bytes.ensures.value ∙ c.in_ok-text.ensures.text) in
    IfOk-weaker c.remarks_below.result _ _ (λ below is. (all, are, is ∙ ap (λ (n : ℕ). remarks_below n c.args.source_lines all) lines)) c.remarks_below.ensures
