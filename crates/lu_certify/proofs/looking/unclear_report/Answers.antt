use Rattle.std.proofs.Common.{rules}
use Rattle.lu_certify.specs.Certificates.{IsFullPass}
use Rattle.lu_certify.proofs.Behind.{unknown_never_clear}
use Rattle.lu_certify.proofs.looking.unclear_report.Goals as goal

pub returns-else-is_full_pass : goal.returns-else-is_full_pass
returns-else-is_full_pass c = λ asked.
    (let less : IsFullPass c.in_ok-report-in-Clearness.report.finding → ⊥ = search rules in (
      c.in_ok-report-in-Clearness.ensures,
      unknown_never_clear c.args.cut.component.now c.args.cut.matrix.now c.args.cut.limits c.args.cut.can_run.settles c.in_ok-report-in-Clearness.report
          c.in_ok-report-in-Clearness.ensures less (c.requires.unknown c.in-Good.is),
    ))
