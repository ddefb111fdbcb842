use Rattle.std.proofs.Common.{List, subst}
use Rattle.std.specs.Prelude.{IfOk}
use Rattle.std.proofs.lemmas.Result.{IfErr-weaker, IfOk-weaker}
use Rattle.lu_history.specs.declared.serial.SerialOp.{SerialOp}
use Rattle.lu_machine.proofs.Starting.{start_there}
use Rattle.lu_machine.specs.Starts.{FromEachStart}
use Rattle.lu_serial_graph.specs.Graphs.{members_of}
use Rattle.lu_spec.specs.Beginnings.{IsClosureOf}
use Rattle.lu_replay.specs.Reports.{IsFinding, IsGraphOffence, IsGraphSet}
use Rattle.lu_refute.proofs.Fitting.{learnt_closes}
use Rattle.lu_certify.specs.Certificates.{AreBeginnings}
use Rattle.lu_certify.proofs.Rounds.{closure_begins, none_found}
use Rattle.lu_certify.proofs.certifying.own_spec.Goals as goal

pub unwrap-graph-requires : goal.unwrap-graph-requires
unwrap-graph-requires c =
    let there = start_there c.args.test.component.now c.args.test.matrix.now c.args.test.can_run.settles in
    let serial = c.args.test.limits.serial in
    let learnt = c.in_ok-learnt.ensures.learnt there.0 there.1 in
    none_found there.0 serial c.graph_or_offence.result (c.requires there.0 there.1)
    (IfErr-weaker c.graph_or_offence.result (IsGraphOffence c.in_ok-learnt.learnt) (IsFinding there.0 0 serial) (λ finding is. is there.0 0 serial learnt) c.graph_or_offence.ensures.offence)
    c.graph_or_offence.ensures.serial

pub closure_of-requires-clause-deterministic : goal.closure_of-requires-clause-deterministic
closure_of-requires-clause-deterministic c =
    let there = start_there c.args.test.component.now c.args.test.matrix.now c.args.test.can_run.settles in
    let found = subst (λ r. IfOk r (λ graph. IsGraphSet c.in_ok-learnt.learnt (members_of graph))) c.unwrap-graph.ensures c.graph_or_offence.ensures.set in
    let set = found there.0 c.args.test.limits.serial (c.in_ok-learnt.ensures.learnt there.0 there.1) in
    (learnt_closes c.args.test.component.now c.args.test.matrix.now there.0 c.args.test.limits.serial (members_of c.unwrap-graph.result) there.1 set).0

pub closure_of-requires-clause-serial : goal.closure_of-requires-clause-serial
closure_of-requires-clause-serial c =
    let there = start_there c.args.test.component.now c.args.test.matrix.now c.args.test.can_run.settles in
    let found = subst (λ r. IfOk r (λ graph. IsGraphSet c.in_ok-learnt.learnt (members_of graph))) c.unwrap-graph.ensures c.graph_or_offence.ensures.set in
    let set = found there.0 c.args.test.limits.serial (c.in_ok-learnt.ensures.learnt there.0 there.1) in
    (learnt_closes c.args.test.component.now c.args.test.matrix.now there.0 c.args.test.limits.serial (members_of c.unwrap-graph.result) there.1 set).1

pub closure_of-requires-clause-of : goal.closure_of-requires-clause-of
closure_of-requires-clause-of c =
    let there = start_there c.args.test.component.now c.args.test.matrix.now c.args.test.can_run.settles in
    let found = subst (λ r. IfOk r (λ graph. IsGraphSet c.in_ok-learnt.learnt (members_of graph))) c.unwrap-graph.ensures c.graph_or_offence.ensures.set in
    let set = found there.0 c.args.test.limits.serial (c.in_ok-learnt.ensures.learnt there.0 there.1) in
    (learnt_closes c.args.test.component.now c.args.test.matrix.now there.0 c.args.test.limits.serial (members_of c.unwrap-graph.result) there.1 set).2

pub returns : goal.returns
returns c =
    let found = subst (λ r. IfOk r (λ graph. IsGraphSet c.in_ok-learnt.learnt (members_of graph))) c.unwrap-graph.ensures c.graph_or_offence.ensures.set in
    IfOk-weaker c.closure_of.result (IsClosureOf (members_of c.unwrap-graph.result)) (λ (spec : List (List SerialOp)). FromEachStart c.args.test.component.now c.args.test.matrix.now (λ s. AreBeginnings s spec))
    (λ spec closure s is.
    (let set = found s c.args.test.limits.serial (c.in_ok-learnt.ensures.learnt s is) in
    closure_begins c.args.test.component.now c.args.test.matrix.now s c.args.test.limits.serial (members_of c.unwrap-graph.result) spec is set closure))
    c.closure_of.ensures.closure
