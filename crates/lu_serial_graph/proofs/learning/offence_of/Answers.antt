use Rattle.lu_machine.proofs.Starting.{start_there}
use Rattle.lu_serial_graph.proofs.learning.offence_of.Goals as goal

pub unreachable-requires : goal.unreachable-requires
unreachable-requires g c =
    let there = start_there c.args.component.now c.args.matrix.now c.requires.of.settles in
    let set = rw c.in-Set.is at (c.in_ok-learn.ensures.learnt there.0 there.1) in
    c.requires.offence there.0 there.1 set.none

pub returns-in-Cut : goal.returns-in-Cut
returns-in-Cut g c = λ s is. (rw c.in-Cut.is at (c.in_ok-learn.ensures.learnt s is))

pub returns-in-Conflict : goal.returns-in-Conflict
returns-in-Conflict g c = λ s is. (rw c.in-Conflict.is at (c.in_ok-learn.ensures.learnt s is))
