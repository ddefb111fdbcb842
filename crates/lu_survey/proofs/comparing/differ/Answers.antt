use Rattle.std.proofs.Common.{subst}
use Rattle.lu_machine.proofs.Starting.{start_there}
use Rattle.lu_serial_graph.specs.Graphs.{members_of}
use Rattle.lu_serial_graph.specs.Learning.{IsLearntGraph}
use Rattle.lu_survey.proofs.InComparisons.{differs_where}
use Rattle.lu_survey.proofs.comparing.differ.Goals as goal

pub differ_from-requires-clause-of : goal.differ_from-requires-clause-of
differ_from-requires-clause-of c = c.requires.of

pub differ_from-requires-clause-bound : goal.differ_from-requires-clause-bound
differ_from-requires-clause-bound c = c.requires.bound

pub differ_from-requires-clause-serial : goal.differ_from-requires-clause-serial
differ_from-requires-clause-serial c = c.requires.serial

pub differ_from-requires-clause-deterministic : goal.differ_from-requires-clause-deterministic
differ_from-requires-clause-deterministic c =
    let there = start_there c.args.trusted.now c.args.matrix.now c.requires.trusted.settles in
    (subst (IsLearntGraph there.0 c.args.serial) c.in-Set.is (c.in_ok-set.ensures.learnt there.0 there.1)).deterministic

pub returns-in-Set : goal.returns-in-Set
returns-in-Set c =
    differs_where c.args.trusted.now c.args.component.now c.args.matrix.now c.args.bound c.args.serial (members_of c.in-Set.set)
    (λ s at. subst (IsLearntGraph s c.args.serial) c.in-Set.is (c.in_ok-set.ensures.learnt s at)) c.differ_from.result c.differ_from.ensures

pub returns-in-Cut : goal.returns-in-Cut
returns-in-Cut c = λ s at. subst (IsLearntGraph s c.args.serial) c.in-Cut.is (c.in_ok-set.ensures.learnt s at)

pub returns-in-Conflict : goal.returns-in-Conflict
returns-in-Conflict c = λ s at. subst (IsLearntGraph s c.args.serial) c.in-Conflict.is (c.in_ok-set.ensures.learnt s at)
