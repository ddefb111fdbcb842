use Rattle.std.proofs.lemmas.Result.{IfOk-weaker}
use Rattle.lu_lint.proofs.SettingUp.{can_start, shown_by_setup}
use Rattle.lu_lint.proofs.setup_run.setup_hints.Goals as goal

pub start-requires : goal.start-requires
start-requires c = can_start c.args.test.component.now c.args.test.matrix.now c.in_ok-alone.alone c.in_ok-alone.ensures c.args.test.can_run.of

pub returns : goal.returns
returns c = IfOk-weaker c.run_hints.result _ _ (λ hints shown. shown_by_setup c.args.test.component.now c.args.test.matrix.now c.in_ok-alone.alone c.in_ok-machine.machine hints.items c.in_ok-alone.ensures c.in_ok-machine.ensures.limits.1 c.args.test.can_run.settles c.in_ok-machine.ensures.starts shown) c.run_hints.ensures
