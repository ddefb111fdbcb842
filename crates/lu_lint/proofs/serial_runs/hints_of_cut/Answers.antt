use Rattle.std.proofs.lemmas.Result.{IfOk-weaker}
use Rattle.std.proofs.Common.{◌∙◌, ap}
use Rattle.lu_lint.specs.Runs.{cut_hints}
use Rattle.lu_lint.proofs.Played.{cut_shown}
use Rattle.lu_lint.proofs.serial_runs.hints_of_cut.Goals as goal

pub returns : goal.returns
returns c = IfOk-weaker c.cut_hints.result _ _ (λ hints is. cut_shown c.args.test.component.now c.args.test.matrix.now c.args.schedule.now c.in_ok-history.history.items hints.items c.in_ok-history.ensures (is ∙ ap cut_hints c.deref.ensures.value)) c.cut_hints.ensures
