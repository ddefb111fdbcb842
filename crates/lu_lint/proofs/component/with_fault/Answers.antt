use Rattle.std.proofs.Common.{◌∙◌, ap, sym, vec_len}
use Rattle.std.proofs.lemmas.Result.{IfOk-weaker}
use Rattle.lu_lang.specs.Faulty.{FaultyDraft}
use Rattle.lu_lang.specs.FaultLines.{backs}
use Rattle.lu_lint.specs.declared.remark.FaultKind.TheVariants as part
use Rattle.lu_lint.proofs.Going.{is_once, is_each}
use Rattle.lu_lint.proofs.component.with_fault.Goals as goal

pub returns-then-is_empty : goal.returns-then-is_empty
returns-then-is_empty over c =
    let back = c.in_ok-backs.ensures ∙ ap (λ (f : FaultyDraft). backs f.draft c.args.text.now c.args.kind) c.draft.view_is in
    IfOk-weaker c.with_remark.result _ _
    (λ next more. is_once part.Component c.args.at.now.above _ _ _ c.args.at.now.seen.items c.args.at.now.line c.args.kind c.in_ok-backs.backs.items _ (vec_len c.in_ok-backs.backs) more c.said.ensures back c.in_ok-backs.backs.ok.0 (sym c.is_empty.ensures ∙ c.if-is_empty.true))
    c.with_remark.ensures

pub returns : goal.returns
returns over c =
    let back = c.in_ok-backs.ensures ∙ ap (λ (f : FaultyDraft). backs f.draft c.args.text.now c.args.kind) c.draft.view_is in
    IfOk-weaker c.with_jumps.result _ _
    (λ next more. is_each part.Component c.args.at.now.above _ _ c.args.at.now.seen.items c.args.at.now.line c.args.kind c.in_ok-backs.backs.items _ (vec_len c.in_ok-backs.backs) more back c.in_ok-backs.backs.ok.0 (sym c.is_empty.ensures ∙ c.if-is_empty.false))
    (rw c.deref.ensures.value at c.with_jumps.ensures)
