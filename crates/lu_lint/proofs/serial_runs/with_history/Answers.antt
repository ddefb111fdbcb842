use Rattle.std.proofs.Common.{◌∙◌, ap, arith, take}
use Rattle.lu_lint.specs.Runs.{with_hint}
use Rattle.lu_lint.proofs.Shown.{no_more, none_more, one_more, op_further}
use Rattle.lu_lint.proofs.serial_runs.with_history.Goals as goal

pub loop-position-preserved : goal.loop-position-preserved
loop-position-preserved c =
    let found = c.loop-position.found.items in
    op_further c.args.history.now c.loop-position.position _ _ _ _ (omega arith)
    (rw c.split_at.ensures.front at (c.in_ok-found.ensures ∙ (ap (with_hint found) c.in_ok-hint_of.ensures ∙ one_more found _ _ _ c.in-Some.ending c.ending_of.ensures c.in-Some.is)))
    c.loop-position.invariant

pub loop-position-preserved-in_default : goal.loop-position-preserved-in_default
loop-position-preserved-in_default c = op_further c.args.history.now c.loop-position.position _ _ _ _ (omega arith) (none_more c.loop-position.found.items (take c.loop-position.position c.args.history.now) _ _ c.ending_of.ensures c.in_default.is) c.loop-position.invariant

pub returns : goal.returns
returns c = no_more c.args.history.now c.loop-position.position _ _ (omega arith) c.loop-position.invariant
