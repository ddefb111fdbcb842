use Rattle.std.proofs.Common.{◌∙◌, sym}
use Rattle.lu_spec.specs.FreeSpecs.{has_mark}
use Rattle.lu_spec.proofs.MarkedWords.{found, not_here}
use Rattle.lu_spec.proofs.marked_line.has_free_entries.Goals as goal

pub returns-then-branch : goal.returns-then-branch
returns-then-branch c =
    let there = found has_mark c.deref-line-items.result.now c.loop-line.line-index _ c.loop-line-test.true (sym c.in_ok-has_mark.ensures ∙ c.if-branch.true) in
    rw (← c.in_ok-lines.ensures, ← c.deref-line-items.ensures.value) (sym there)

pub loop-line-preserved : goal.loop-line-preserved
loop-line-preserved c = not_here has_mark c.deref-line-items.result.now c.loop-line.line-index _ c.loop-line-test.true c.loop-line.invariant (sym c.in_ok-has_mark.ensures ∙ c.if-branch.false)
