use Rattle.std.proofs.Common.{subst}
use Rattle.std.proofs.lemmas.Result.{IfOk-weaker}
use Rattle.lu_serial.specs.Offences.{IsSetOf}
use Rattle.lu_serial_graph.specs.Graphs.{members_of}
use Rattle.lu_witness.specs.Witnesses.{IsMember}
use Rattle.lu_replay.specs.Reports.{IsFinding, IsFindingAgainst}
use Rattle.lu_parallel.proofs.Answers.{against_serially}
use Rattle.lu_parallel.proofs.checks.find.Goals as goal

pub returns-in-Ok-clause-found : goal.returns-in-Ok-clause-found
returns-in-Ok-clause-found g c = λ s is.
    let choice = c.args.check.now.options in
    let members = members_of c.in-Ok.graph in
    let learnt = c.in-Ok.ensures.set s c.serial-serial.result (c.in_ok-learn_graph_from.ensures s is) in
    let set = subst (λ n. IsSetOf s n members) c.serial-serial.ensures.serial learnt in
    IfOk-weaker c.search_tree.result (IsFindingAgainst (IsMember members) s c.args.check.now.space.bound) (IsFinding s c.args.check.now.space.bound choice.serial)
    (λ finding found. against_serially members s c.args.check.now.space.bound choice.serial finding set found) (c.search_tree.ensures.found s is)

pub returns-in-Err-clause-found : goal.returns-in-Err-clause-found
returns-in-Err-clause-found g c = λ s is.
    subst (λ n. IsFinding s c.args.check.now.space.bound n c.in-Err.offence) c.serial-serial.ensures.serial (c.in-Err.ensures.offence s c.args.check.now.space.bound c.serial-serial.result (c.in_ok-learn_graph_from.ensures s is))
