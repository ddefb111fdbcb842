use Rattle.std.proofs.Common.{ℕ, List, Result, inl, inr, subst}
use Rattle.std.specs.Prelude.{MatchResult}
use Rattle.std.proofs.lemmas.Result.{IfOk-weaker}
use Rattle.lu_history.specs.declared.serial.SerialOp.{SerialOp}
use Rattle.lu_report.specs.Limits.{most_moves}
use Rattle.lu_serial_graph.specs.Graphs.{members_of}
use Rattle.lu_cli.specs.Outcomes.{Answer}
use Rattle.lu_cli.specs.Explanation.{AreSerialHistories, IsGraphOfHistories, IsExplainedSchedule, SaysOffence, ToFinding}
use Rattle.lu_cli.specs.Failing.{IsFindingExplained}
use Rattle.lu_cli.proofs.explanation.explain_finding_serially.Goals as goal

pub returns-in-Ok : goal.returns-in-Ok
returns-in-Ok c =
    let component = c.args.test.component.now in
    let matrix = c.args.test.matrix.now in
    let finding = c.args.finding.now in
    let members = members_of c.in-Ok.graph in
    let are : AreSerialHistories component matrix most_moves members =
    subst (λ (r : Result (List (List (List SerialOp)) × ℕ) Answer). MatchResult r (IsGraphOfHistories component matrix most_moves) (SaysOffence component matrix most_moves)) c.in-Ok.is c.in_ok-graph.ensures in
    IfOk-weaker c.explain_finding.result (ToFinding (IsExplainedSchedule c.args.by members component matrix) finding) (IsFindingExplained c.args.by component matrix finding)
    (λ answer is. inl (members, are, is)) c.explain_finding.ensures

pub returns-in-Err : goal.returns-in-Err
returns-in-Err c =
    let component = c.args.test.component.now in
    let matrix = c.args.test.matrix.now in
    inr (subst (λ (r : Result (List (List (List SerialOp)) × ℕ) Answer). MatchResult r (IsGraphOfHistories component matrix most_moves) (SaysOffence component matrix most_moves)) c.in-Err.is c.in_ok-graph.ensures)
