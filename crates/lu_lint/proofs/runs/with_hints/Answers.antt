use Rattle.lu_lint.specs.Runs.{said_of_hint}
use Rattle.lu_lint.proofs.FaultsSaid.{push_more}
use Rattle.lu_lint.proofs.runs.with_hints.Goals as goal

pub loop-hint-preserved : goal.loop-hint-preserved
loop-hint-preserved over c =
    let said = rw (c.deref.ensures.value, c.deref-in-loop-hint.ensures.value) at c.said_of_hint.ensures in
    push_more (said_of_hint c.args.above c.in_ok-setup.setup.items c.in_ok-threads.threads.items) c.loop-hint.yielded c.in-Some.hint _ _ _ c.said_of_hint.result c.loop-hint.invariant said c.in_ok-all.ensures
