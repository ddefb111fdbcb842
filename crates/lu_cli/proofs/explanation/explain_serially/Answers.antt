use Rattle.std.proofs.Common.{ℕ, List, Result, inl, inr, subst}
use Rattle.std.specs.Prelude.{MatchResult}
use Rattle.std.proofs.lemmas.Result.{IfOk-weaker}
use Rattle.lu_history.specs.declared.serial.SerialOp.{SerialOp}
use Rattle.lu_serial_graph.specs.Graphs.{members_of}
use Rattle.lu_cli.specs.Outcomes.{Answer}
use Rattle.lu_cli.specs.Explanation.{AreSerialHistories, IsGraphOfHistories, IsExplainedSerially, IsExplainedTarget, SaysOffence}
use Rattle.lu_cli.proofs.explanation.explain_serially.Goals as goal

pub returns-in-Ok : goal.returns-in-Ok
returns-in-Ok c =
    let component = c.args.test.component.now in
    let matrix = c.args.test.matrix.now in
    let target = c.args.target.now in
    let serial = c.serial.result in
    let members = members_of c.in-Ok.graph in
    let are : AreSerialHistories component matrix serial members =
    subst (λ (r : Result (List (List (List SerialOp)) × ℕ) Answer). MatchResult r (IsGraphOfHistories component matrix serial) (SaysOffence component matrix serial)) c.in-Ok.is c.in_ok-graph.ensures in
    let own : AreSerialHistories component matrix c.args.bounds.serial members = rw (← c.serial.ensures.serial) are in
    IfOk-weaker c.explain.result (IsExplainedTarget c.args.by members component matrix target) (IsExplainedSerially c.args.by c.args.bounds component matrix target)
    (λ answer is. inl (members, own, is)) c.explain.ensures

pub returns-in-Err : goal.returns-in-Err
returns-in-Err c =
    let component = c.args.test.component.now in
    let matrix = c.args.test.matrix.now in
    let serial = c.serial.result in
    let says : SaysOffence component matrix serial c.in-Err.answer =
    subst (λ (r : Result (List (List (List SerialOp)) × ℕ) Answer). MatchResult r (IsGraphOfHistories component matrix serial) (SaysOffence component matrix serial)) c.in-Err.is c.in_ok-graph.ensures in
    let own : SaysOffence component matrix c.args.bounds.serial c.in-Err.answer = rw (← c.serial.ensures.serial) says in
    inr own
