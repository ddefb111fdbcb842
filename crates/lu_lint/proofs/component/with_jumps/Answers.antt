use Rattle.std.proofs.Common.{ℕ, ◌∙◌, ap, arith}
use Rattle.lu_lint.specs.Lint.{message_on}
use Rattle.lu_lint.specs.Said.{message_said}
use Rattle.lu_lint.specs.declared.remark.FaultKind.TheVariants as part
use Rattle.lu_lint.proofs.Going.{jump_more}
use Rattle.lu_lint.proofs.component.with_jumps.Goals as goal

pub loop-back-preserved : goal.loop-back-preserved
loop-back-preserved over c =
    let at = c.args.at.now in
    let line = rw c.deref.ensures.value at c.line_before-line.ensures in
    let said = c.said.ensures ∙ ap (λ (n : ℕ). message_said part.Component at.above (message_on at.line c.args.kind n)) line in
    jump_more at c.args.kind c.args.backs.now c.loop-back.back-index 0 _ _ _ c.said.result (omega arith) c.loop-back.invariant said c.in_ok-all.ensures
