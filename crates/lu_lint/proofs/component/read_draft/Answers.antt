use Rattle.std.proofs.Common.{◌∙◌, ap, rules}
use Rattle.lu_text.specs.Lines.{texts}
use Rattle.lu_lang.specs.FaultLines.{left_backs}
use Rattle.lu_lang.specs.Faulty.{FaultyDraft}
use Rattle.lu_lint.proofs.ReadingOn.{read_faulty}
use Rattle.lu_lint.proofs.component.read_draft.Goals as goal

pub returns : goal.returns
returns over c =
    let backs = c.in_ok-backs.ensures ∙ ap (λ (f : FaultyDraft). left_backs f.draft c.args.text.now (texts c.args.lines.now) c.in-Some.kind) c.draft.view_is in
    read_faulty c.args.at.now c.args.draft c.in_ok-draft.draft _ c.in-Some.kind c.args.text.now (texts c.args.lines.now) c.in_ok-backs.backs.items _ _ _ (search rules) c.in_ok-all.ensures backs (rw c.deref.ensures.value at c.in_ok-all-2.ensures) c.in_ok-draft-2.ensures
