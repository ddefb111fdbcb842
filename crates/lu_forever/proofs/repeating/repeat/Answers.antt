use Rattle.std.proofs.Common.{◌∙◌, ◌++◌, List, ap}
use Rattle.lu_test.specs.declared.matrix.Call.{Call}
use Rattle.lu_forever.proofs.UnrolledRows.{next_round}
use Rattle.lu_forever.proofs.repeating.repeat.Goals as goal

pub loop-round-preserved : goal.loop-round-preserved
loop-round-preserved c =
    c.in_ok-push_all.ensures ∙ (ap (λ (x : List Call). c.loop-round.calls.items ++ x) c.as_slice.ensures ∙ (ap (λ (x : List Call). x ++ c.args.line.now) c.loop-round.invariant ∙ next_round c.loop-round._round c.args.line.now))
