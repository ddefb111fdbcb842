use Rattle.std.proofs.Common.{inl, inr, subst}
use Rattle.std.specs.Prelude.{IfOk}
use Rattle.std.proofs.lemmas.Result.{IfOk-weaker}
use Rattle.lu_machine.proofs.Starting.{start_there}
use Rattle.lu_serial.specs.Offences.{IsSetOf}
use Rattle.lu_serial_graph.specs.Graphs.{members_of}
use Rattle.lu_spec.specs.Beginnings.{IsClosureOf}
use Rattle.lu_spec.specs.BeginningsInOrder.{beginnings_of}
use Rattle.lu_cli.specs.Witness.{IsJudgedByMembers, IsJudgedSerially}
use Rattle.lu_cli.specs.Serial.{IsOffenceReported}
use Rattle.lu_cli.proofs.witness.judge_serially.Goals as goal

pub show_offence-requires-clause-found : goal.show_offence-requires-clause-found
show_offence-requires-clause-found c s start =
    let finding = c.in-Err.ensures.offence s c.args.bounds.bound c.serial.result (c.in_ok-learnt.ensures.learnt s start) in
    rw (← c.serial.ensures.serial) finding

pub returns-in-Ok : goal.returns-in-Ok
returns-in-Ok c =
    let component = c.args.test.component.now in
    let matrix = c.args.test.matrix.now in
    let there = start_there component matrix c.args.test.can_run.settles in
    let histories = members_of c.in-Ok.graph in
    let set = c.in-Ok.ensures.set there.0 c.serial.result (c.in_ok-learnt.ensures.learnt there.0 there.1) in
    let own : IsSetOf there.0 c.args.bounds.serial histories = rw (← c.serial.ensures.serial) set in
    let closure : IsClosureOf histories (beginnings_of histories) = subst (λ x. IsClosureOf (members_of x.now) (beginnings_of (members_of x.now))) c.of.ensures.tree c.of.ensures.closure in
    let judged : IfOk c.judge_by.result (IsJudgedByMembers (beginnings_of histories) component matrix c.args.all.now) =
    subst (λ x. IfOk c.judge_by.result (IsJudgedByMembers (beginnings_of (members_of x.now)) component matrix c.args.all.now)) c.of.ensures.tree c.judge_by.ensures in
    IfOk-weaker c.judge_by.result (IsJudgedByMembers (beginnings_of histories) component matrix c.args.all.now) (IsJudgedSerially component matrix c.args.bounds c.args.all.now)
    (λ answer is. inl (there.0, histories, beginnings_of histories, there.1, own.none, own.are, closure, is)) judged

pub returns-in-Err : goal.returns-in-Err
returns-in-Err c =
    IfOk-weaker c.show_offence.result (IsOffenceReported c.args.test.component.now c.args.test.matrix.now c.args.bounds) (IsJudgedSerially c.args.test.component.now c.args.test.matrix.now c.args.bounds c.args.all.now)
    (λ answer is. inr is) c.show_offence.ensures
