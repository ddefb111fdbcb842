use Rattle.std.proofs.lemmas.Result.{IfOk-weaker}
use Rattle.lu_machine.proofs.Starting.{start_there}
use Rattle.lu_serial_graph.specs.Graphs.{members_of}
use Rattle.lu_refute.proofs.Fitting.{learnt_closes}
use Rattle.lu_certify.specs.declared.certificate.Certificate.TheVariants.{Linearizable}
use Rattle.lu_certify.proofs.Rounds.{closure_begins}
use Rattle.lu_cli.specs.AtOnce.{ShowsPrefixes}
use Rattle.lu_cli.specs.Shows.{ShowsCertificate}
use Rattle.lu_cli.proofs.at_once.show_prefixes.Goals as goal

pub closure_of-requires-clause-deterministic : goal.closure_of-requires-clause-deterministic
closure_of-requires-clause-deterministic c =
    let there = start_there c.args.test.component.now c.args.test.matrix.now c.args.test.can_run.settles in
    (learnt_closes c.args.test.component.now c.args.test.matrix.now there.0 c.requires.0 (members_of c.args.graph.now) there.1 (c.requires.1 there.0 there.1)).0

pub closure_of-requires-clause-serial : goal.closure_of-requires-clause-serial
closure_of-requires-clause-serial c =
    let there = start_there c.args.test.component.now c.args.test.matrix.now c.args.test.can_run.settles in
    (learnt_closes c.args.test.component.now c.args.test.matrix.now there.0 c.requires.0 (members_of c.args.graph.now) there.1 (c.requires.1 there.0 there.1)).1

pub closure_of-requires-clause-of : goal.closure_of-requires-clause-of
closure_of-requires-clause-of c =
    let there = start_there c.args.test.component.now c.args.test.matrix.now c.args.test.can_run.settles in
    (learnt_closes c.args.test.component.now c.args.test.matrix.now there.0 c.requires.0 (members_of c.args.graph.now) there.1 (c.requires.1 there.0 there.1)).2

pub returns : goal.returns
returns c =
    let component = c.args.test.component.now in
    let matrix = c.args.test.matrix.now in
    let spec = c.in_ok-spec.spec in
    IfOk-weaker c.show_certificate.result (ShowsCertificate component (Linearizable spec)) (ShowsPrefixes component matrix)
    (λ answer is. (spec, (λ s start. closure_begins component matrix s c.requires.0 (members_of c.args.graph.now) spec start (c.requires.1 s start) c.in_ok-spec.ensures.closure), is))
    c.show_certificate.ensures
