use Rattle.std.proofs.lemmas.Result.{IfOk-weaker}
use Rattle.lu_text.specs.Lines.{texts}
use Rattle.lu_lint.proofs.Joined.{of_bundle}
use Rattle.lu_lint.proofs.linting.remarks_on.Goals as goal

pub returns : goal.returns
returns over c =
    let said = rw c.deref.ensures.value at c.in_ok-all.ensures in
    IfOk-weaker c.with_parts.result _ _
    (λ found such. of_bundle c.args.options c.args.bundle.now (texts c.in_ok-lines.lines.items) (texts c.in_ok-parts.parts.items) _ _ c.in_ok-lines.ensures c.in_ok-parts.ensures (rw c.new.ensures.items at said) such)
    (rw c.deref-2.ensures.value at c.with_parts.ensures)
