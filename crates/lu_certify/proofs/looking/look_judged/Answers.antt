use Rattle.std.proofs.Common.{None, sym, subst}
use Rattle.lu_certify.specs.declared.asked.Asked.{Asked}
use Rattle.lu_certify.specs.Cuts.{IsJudged}
use Rattle.lu_certify.specs.Looking.{IsAnswer}
use Rattle.lu_certify.proofs.Rounds.{standing_never_fails}
use Rattle.lu_certify.proofs.looking.look_judged.Goals as goal

pub returns-in-FailureOnly-clause-looked : goal.returns-in-FailureOnly-clause-looked
returns-in-FailureOnly-clause-looked g c =
    let cut = c.args.cut in (
      standing_never_fails cut.component.now cut.matrix.now cut.limits cut.can_run.settles c.in-Stands.standing
          (subst (IsJudged cut.component.now cut.limits cut.matrix.now) c.in-Stands.is c.requires.judged),
      subst (λ (x : Asked). IsAnswer x cut.component.now cut.limits cut.matrix.now None None) (sym c.in-FailureOnly.is) tt,
    )
