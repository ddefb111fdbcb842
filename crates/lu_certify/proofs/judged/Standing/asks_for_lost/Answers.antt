use Rattle.std.proofs.Common.{sym, ◌∙◌, subst}
use Rattle.lu_report.specs.declared.report.Finding.TheVariants.{Pass}
use Rattle.lu_certify.specs.Cuts.{IsStanding}
use Rattle.lu_certify.proofs.Livelocks.{finds_as, good_none, none_in_full_pass, none_in_serial_cut}
use Rattle.lu_certify.proofs.judged.Standing.asks_for_lost.Goals as goal

pub returns-in-FullPass-clause-asks : goal.returns-in-FullPass-clause-asks
returns-in-FullPass-clause-asks c = λ component limits matrix settles stands.
    none_in_full_pass component matrix limits settles (subst (IsStanding component limits matrix) c.in-FullPass.is stands)

pub returns-in-Good-clause-asks : goal.returns-in-Good-clause-asks
returns-in-Good-clause-asks c = λ component limits matrix settles stands.
    good_none component matrix limits (subst (IsStanding component limits matrix) c.in-Good.is stands)

pub returns-in-SerialCut-clause-asks : goal.returns-in-SerialCut-clause-asks
returns-in-SerialCut-clause-asks c = λ component limits matrix settles stands.
    none_in_serial_cut component matrix limits settles c.in-Open.report
    (subst (IsStanding component limits matrix) c.in-Open.is stands) c.in-SerialCut.field-0 (sym c.finding.ensures.finding ∙ c.in-SerialCut.is)

pub returns-in-Pass-clause-asks : goal.returns-in-Pass-clause-asks
returns-in-Pass-clause-asks c = λ component limits matrix settles stands s at.
    (finds_as component matrix limits settles c.in-Open.report
    (subst (IsStanding component limits matrix) c.in-Open.is stands) (Pass c.in-Pass.field-0) (sym c.finding.ensures.finding ∙ c.in-Pass.is) s at).0
