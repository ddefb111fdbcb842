use Rattle.lu_graph.specs.Judging.{ended}
use Rattle.lu_graph.proofs.Counted.{entry_found}
use Rattle.lu_graph.proofs.Wholes.{stuck_found}
use Rattle.lu_graph.proofs.judging.is_stuck.Goals as goal

pub returns-in-Some : goal.returns-in-Some
returns-in-Some c =
    stuck_found c.args.member.now c.args.thread (ended c.args.machine.now c.args.thread) c.in-Some.position
    (entry_found c.args.member.now c.args.thread (ended c.args.machine.now c.args.thread) c.ended.result c.in-Some.position c.position_of.result c.position_of.ensures c.in-Some.is c.ended.ensures)
    _ c.is_stuck_so.result c.is_stuck_so.ensures
