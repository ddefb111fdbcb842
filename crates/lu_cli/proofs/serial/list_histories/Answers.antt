use Rattle.std.proofs.lemmas.Result.{IfOk-weaker}
use Rattle.lu_machine.proofs.Starting.{start_there}
use Rattle.lu_machine.specs.Starts.{FromEachStart}
use Rattle.lu_serial_graph.specs.Graphs.{members_of}
use Rattle.lu_refute.proofs.Fitting.{learnt_closes}
use Rattle.lu_cli.specs.Serial.{ListsSerial}
use Rattle.lu_cli.specs.Shows.{IsListed}
use Rattle.lu_cli.proofs.serial.list_histories.Goals as goal

pub closure_of-requires-clause-deterministic : goal.closure_of-requires-clause-deterministic
closure_of-requires-clause-deterministic c =
    let there = start_there c.args.test.component.now c.args.test.matrix.now c.args.test.can_run.settles in
    (learnt_closes c.args.test.component.now c.args.test.matrix.now there.0 c.requires.0 (members_of c.args.graph.now) there.1 (c.requires.1 there.0 there.1)).0

pub closure_of-requires-clause-serial : goal.closure_of-requires-clause-serial
closure_of-requires-clause-serial c =
    let there = start_there c.args.test.component.now c.args.test.matrix.now c.args.test.can_run.settles in
    (learnt_closes c.args.test.component.now c.args.test.matrix.now there.0 c.requires.0 (members_of c.args.graph.now) there.1 (c.requires.1 there.0 there.1)).1

pub closure_of-requires-clause-of : goal.closure_of-requires-clause-of
closure_of-requires-clause-of c =
    let there = start_there c.args.test.component.now c.args.test.matrix.now c.args.test.can_run.settles in
    (learnt_closes c.args.test.component.now c.args.test.matrix.now there.0 c.requires.0 (members_of c.args.graph.now) there.1 (c.requires.1 there.0 there.1)).2

pub returns : goal.returns
returns c =
    IfOk-weaker c.show_spec-2.result (IsListed c.in_ok-closure_of.field-0) (λ answer. FromEachStart c.args.test.component.now c.args.test.matrix.now (λ s. ListsSerial s answer))
    (λ answer listed s start. (members_of c.args.graph.now, c.in_ok-closure_of.field-0, (c.requires.1 s start).are, c.in_ok-closure_of.ensures.closure, listed))
    c.show_spec-2.ensures
