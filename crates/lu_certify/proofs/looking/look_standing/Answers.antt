use Rattle.std.proofs.Common.{None, Option, sym, subst}
use Rattle.lu_graph.specs.declared.lost.FirstLost.TheVariants.{First, Never, Unknown}
use Rattle.lu_report.specs.declared.report.Report.{Report}
use Rattle.lu_certify.specs.Cuts.{IsLivelockOf}
use Rattle.lu_certify.specs.Looking.{IsAnswer}
use Rattle.lu_certify.proofs.Livelocks.{free_answer, lost_answer, open_answer}
use Rattle.lu_certify.proofs.Rounds.{standing_never_fails}
use Rattle.lu_certify.proofs.looking.look_standing.Goals as goal

pub returns-in-First-clause-looked : goal.returns-in-First-clause-looked
returns-in-First-clause-looked g c =
    let cut = c.args.cut in
    let found : IsLivelockOf cut.component.now cut.limits cut.matrix.now c.args.standing (First c.in-First.schedule) =
    subst (IsLivelockOf cut.component.now cut.limits cut.matrix.now c.args.standing) c.in-First.is (c.in_ok-schedule.ensures.livelock c.requires.standing) in (
      standing_never_fails cut.component.now cut.matrix.now cut.limits cut.can_run.settles c.args.standing c.requires.standing,
      lost_answer c.args.asked cut.component.now cut.matrix.now cut.limits c.in-First.schedule found,
    )

pub returns-in-Never-clause-looked : goal.returns-in-Never-clause-looked
returns-in-Never-clause-looked g c =
    let cut = c.args.cut in
    let found : IsLivelockOf cut.component.now cut.limits cut.matrix.now c.args.standing Never =
    subst (IsLivelockOf cut.component.now cut.limits cut.matrix.now c.args.standing) c.in-Never.is (c.in_ok-schedule.ensures.livelock c.requires.standing) in (
      standing_never_fails cut.component.now cut.matrix.now cut.limits cut.can_run.settles c.args.standing c.requires.standing,
      subst (λ (x : Option Report). IsAnswer c.args.asked cut.component.now cut.limits cut.matrix.now None x) (sym c.report.ensures)
          (free_answer c.args.asked cut.component.now cut.matrix.now cut.limits c.args.standing cut.can_run.settles c.requires.standing found),
    )

pub returns-in_ok-unclear-in-Unknown-clause-looked : goal.returns-in_ok-unclear-in-Unknown-clause-looked
returns-in_ok-unclear-in-Unknown-clause-looked g c =
    let cut = c.args.cut in
    let found : IsLivelockOf cut.component.now cut.limits cut.matrix.now c.args.standing Unknown =
    subst (IsLivelockOf cut.component.now cut.limits cut.matrix.now c.args.standing) c.in-Unknown.is (c.in_ok-schedule.ensures.livelock c.requires.standing) in (
      standing_never_fails cut.component.now cut.matrix.now cut.limits cut.can_run.settles c.args.standing c.requires.standing,
      open_answer c.args.asked cut.component.now cut.matrix.now cut.limits c.in_ok-unclear-in-Unknown.unclear found.0 c.in_ok-unclear-in-Unknown.ensures,
    )
