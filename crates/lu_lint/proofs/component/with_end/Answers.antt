use Rattle.std.proofs.Common.{◌∙◌, ap, sym}
use Rattle.std.proofs.lemmas.Result.{IfOk-weaker}
use Rattle.lu_lang.specs.Faulty.{FaultyDraft}
use Rattle.lu_text.specs.Faults.{fault_in}
use Rattle.lu_lang.specs.Meant.{faulty_grammar}
use Rattle.lu_lang.specs.FaultLines.{open_backs}
use Rattle.lu_lint.proofs.Going.{are_at_end}
use Rattle.lu_lint.proofs.component.with_end.Goals as goal

pub returns-in_ok-backs-in-Some : goal.returns-in_ok-backs-in-Some
returns-in_ok-backs-in-Some over c =
    let at = c.args.at.now in
    let backs = c.in_ok-backs-in-Some.ensures ∙ ap (λ (f : FaultyDraft). open_backs f.draft.begun) c.draft.view_is in
    let fault = sym c.in-Some.is ∙ (c.end_fault.ensures ∙ ap (λ (f : FaultyDraft). fault_in (faulty_grammar.finish f)) c.draft.view_is) in
    IfOk-weaker c.with_jumps.result _ _ (λ next more. are_at_end at.above _ _ _ _ at.seen.items at.line c.in-Some.kind c.args.draft.now _ _ c.in_ok-all-in-Some.ensures c.said.ensures more backs fault) (rw c.deref.ensures.value at c.with_jumps.ensures)
