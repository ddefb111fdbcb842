use Rattle.std.proofs.Common.{arith}
use Rattle.lu_machine.proofs.Starting.{start_there}
use Rattle.lu_parallel.proofs.Frontiers.{frontier_pieces}
use Rattle.lu_check_tests.proofs.checks.four_moves.Goals as goal

pub returns-clause-few : goal.returns-clause-few
returns-clause-few g c =
    let start = start_there c.args.case.now.component c.args.case.now.matrix c.requires.settles in
    let few = (c.in_ok-frontier.ensures.frontier start.0 start.1).few in
    let long = c.in_ok-frontier.field-0.ok.0 in
    omega (arith, few, long)

pub returns-clause-pieces : goal.returns-clause-pieces
returns-clause-pieces g c = λ s is. frontier_pieces s 40 4 c.in_ok-frontier.field-0.items (c.in_ok-frontier.ensures.frontier s is)
