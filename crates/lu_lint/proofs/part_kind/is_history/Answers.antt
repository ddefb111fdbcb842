use Rattle.std.proofs.Common.{[], ap, ◌∙◌, arith}
use Rattle.lu_text.specs.Lines.{texts}
use Rattle.lu_lint.proofs.FurtherParts.{goes_past, stops}
use Rattle.lu_lint.proofs.part_kind.is_history.Goals as goal

pub returns-in-Some : goal.returns-in-Some
returns-in-Some c =
    c.begins_step.ensures
    ∙ stops c.deref-line-items.result.now c.loop-line.line-index (record { ref_ptr = (0, 0); now = [] }) _ c.deref.result.now _ _ (omega arith) (ap texts c.deref.ensures.value ∙ c.in_ok-words.ensures) c.in-Some.ensures.cases.0 c.loop-line.invariant

pub loop-line-preserved : goal.loop-line-preserved
loop-line-preserved c =
    goes_past c.deref-line-items.result.now c.loop-line.line-index (record { ref_ptr = (0, 0); now = [] }) c.deref.result.now _ (omega arith) (ap texts c.deref.ensures.value ∙ c.in_ok-words.ensures) c.in_default.ensures.cases c.loop-line.invariant
