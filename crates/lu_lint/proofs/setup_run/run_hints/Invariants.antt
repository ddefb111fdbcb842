use Rattle.lu_lint.proofs.SettingUp.{IsSettingUp}
use Rattle.lu_lint.proofs.setup_run.run_hints.Given as goal

abbrev pub invariant-loop-moved : goal.invariant-loop-moved
invariant-loop-moved l = IsSettingUp l.fn.machine l._moved l.machine l.hints.items
