use Rattle.std.proofs.Common.{inr, subst}
use Rattle.lu_certify.specs.Cuts.{IsShownByNodes}
use Rattle.lu_certify.proofs.judging.judge_first.Goals as goal

pub returns-in_ok-report-in-BadAfter-clause-judged : goal.returns-in_ok-report-in-BadAfter-clause-judged
returns-in_ok-report-in-BadAfter-clause-judged g c =
    inr (
      c.in-BadAfter.moves,
      subst (IsShownByNodes c.args.cut.component.now c.args.cut.limits c.args.cut.matrix.now) c.in-BadAfter.is c.in_ok-search_nodes.ensures.shown,
      c.in_ok-report-in-BadAfter.ensures,
    )
