use Rattle.std.proofs.Common.{rules, sym, subst}
use Rattle.lu_machine.specs.Starts.{CanRun}
use Rattle.lu_grain.proofs.Copied.{other_runs}
use Rattle.lu_grain.proofs.Verdicts.{decides_back}
use Rattle.lu_grain.proofs.workers.certify_longer_with_progress.Goals as goal

pub certify_with_progress-requires : goal.certify_with_progress-requires
certify_with_progress-requires g c = (
  search rules,
  (
    search rules,
    subst (λ d. CanRun d c.args.matrix.now) (sym c.in_ok-longer.ensures)
        (other_runs c.args.component.now c.args.local c.args.matrix.now c.requires.of c.requires.longer),
  ),
)

pub returns-clause-decides : goal.returns-clause-decides
returns-clause-decides g c =
    decides_back c.args.component.now c.in_ok-longer.longer c.args.local c.args.matrix.now c.in_ok-longer.ensures c.requires.longer c.requires.of c.certify_with_progress.result c.certify_with_progress.ensures.decides
