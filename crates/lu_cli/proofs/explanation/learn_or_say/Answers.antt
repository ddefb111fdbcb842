use Rattle.std.proofs.Common.{subst}
use Rattle.lu_machine.proofs.Starting.{start_there}
use Rattle.lu_report.specs.declared.report.Finding.TheVariants.{Nondeterministic, SerialCut}
use Rattle.lu_serial.specs.Offences.{IsFirstConflict}
use Rattle.lu_serial_graph.specs.Learning.{IsLearntGraph}
use Rattle.lu_cli.specs.Explanation.{IsOffenceOf}
use Rattle.lu_cli.proofs.explanation.learn_or_say.Goals as goal

pub returns-in-Set : goal.returns-in-Set
returns-in-Set c =
    let there = start_there c.args.test.component.now c.args.test.matrix.now c.args.test.can_run.settles in
    (there.0, there.1, subst (IsLearntGraph there.0 c.args.serial) c.in-Set.is (c.in_ok-graph.ensures.learnt there.0 there.1))

pub returns-in_ok-say_with-in-Cut : goal.returns-in_ok-say_with-in-Cut
returns-in_ok-say_with-in-Cut c =
    let found = SerialCut c.in-Cut.schedule in
    let offends : IsOffenceOf c.args.test.component.now c.args.test.matrix.now c.args.serial found = (tt, λ bound s start. subst (IsLearntGraph s c.args.serial) c.in-Cut.is (c.in_ok-graph.ensures.learnt s start)) in
    (found, offends, c.in_ok-say_with-in-Cut.ensures)

pub say_conflict-requires : goal.say_conflict-requires
say_conflict-requires c = λ s start.
    let conflict : IsFirstConflict s c.args.serial c.in-Conflict.schedule c.in-Conflict.before c.in-Conflict.earlier = subst (IsLearntGraph s c.args.serial) c.in-Conflict.is (c.in_ok-graph.ensures.learnt s start) in
    (conflict.1.history, conflict.1.ended)

pub returns-in_ok-say_conflict-in-Conflict : goal.returns-in_ok-say_conflict-in-Conflict
returns-in_ok-say_conflict-in-Conflict c =
    let found = Nondeterministic c.in-Conflict.schedule c.in-Conflict.before c.in-Conflict.earlier in
    let offends : IsOffenceOf c.args.test.component.now c.args.test.matrix.now c.args.serial found = (tt, λ bound s start. subst (IsLearntGraph s c.args.serial) c.in-Conflict.is (c.in_ok-graph.ensures.learnt s start)) in
    (found, offends, c.in_ok-say_conflict-in-Conflict.ensures)
