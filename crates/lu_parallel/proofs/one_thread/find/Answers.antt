use Rattle.std.proofs.lemmas.Result.{IfOk-weaker}
use Rattle.lu_serial_graph.specs.Graphs.{members_of}
use Rattle.lu_witness.specs.Witnesses.{IsMember}
use Rattle.lu_replay.specs.Reports.{IsFinding, IsFindingAgainst}
use Rattle.lu_parallel.proofs.Answers.{against_serially}
use Rattle.lu_parallel.proofs.one_thread.find.Goals as goal

pub search_all-requires-clause-few : goal.search_all-requires-clause-few
search_all-requires-clause-few g c κs within = c.requires.few

pub returns-in-Ok-clause-found : goal.returns-in-Ok-clause-found
returns-in-Ok-clause-found g c = λ s is.
    let members = members_of c.in-Ok.graph in
    let set = c.in-Ok.ensures.set s c.args.serial (c.in_ok-learn_graph_from.ensures s is) in
    IfOk-weaker c.search_all.result (IsFindingAgainst (IsMember members) s c.args.space.now.bound) (IsFinding s c.args.space.now.bound c.args.serial)
    (λ finding found. against_serially members s c.args.space.now.bound c.args.serial finding set found) (c.search_all.ensures.found s is)

pub returns-in-Err-clause-found : goal.returns-in-Err-clause-found
returns-in-Err-clause-found g c = λ s is. c.in-Err.ensures.offence s c.args.space.now.bound c.args.serial (c.in_ok-learn_graph_from.ensures s is)
