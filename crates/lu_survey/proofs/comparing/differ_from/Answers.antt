use Rattle.std.proofs.Common.{◌≡◌, Option, subst}
use Rattle.lu_report.specs.Parts.{IsPass}
use Rattle.lu_serial_graph.specs.Graphs.{members_of}
use Rattle.lu_survey.specs.Comparing.{IsFirstOtherRun}
use Rattle.lu_survey.proofs.comparing.differ_from.Goals as goal

pub returns-in-Some : goal.returns-in-Some
returns-in-Some c = subst (IsFirstOtherRun (members_of c.args.set.now) c.args.component.now c.args.matrix.now c.args.serial) c.in-Some.is c.in_ok-schedule.ensures

pub returns-then-is_pass : goal.returns-then-is_pass
returns-then-is_pass c =
    let passes : IsPass c.in_ok-report-in-None.report.finding = c.is_pass.ensures.0 c.if-is_pass.true in
    record {
      serially = subst (IsFirstOtherRun (members_of c.args.set.now) c.args.component.now c.args.matrix.now c.args.serial) c.in-None.is c.in_ok-schedule.ensures;
      report = c.in_ok-report-in-None.report;
      is = c.in_ok-report-in-None.ensures;
      passes = passes;
    }

pub returns-else-is_pass : goal.returns-else-is_pass
returns-else-is_pass c =
    let other : IsPass c.in_ok-report-in-None.report.finding → ⊥ = (λ is. let yes_is = c.is_pass.ensures.1 is in let no_is = c.if-is_pass.false in cc) in
    record {
      serially = subst (IsFirstOtherRun (members_of c.args.set.now) c.args.component.now c.args.matrix.now c.args.serial) c.in-None.is c.in_ok-schedule.ensures;
      is = c.in_ok-report-in-None.ensures;
      no_pass = other;
    }
