use Rattle.std.proofs.lemmas.Result.{IfOk-weaker}
use Rattle.lu_serial_graph.specs.declared.learning.LearntGraph.TheVariants.{Set, Cut, Conflict}
use Rattle.lu_serial_graph.specs.Graphs.{members_of}
use Rattle.lu_lint.proofs.LearntHints.{can_play, learnt_so, shown_by_conflict, shown_by_cut, shown_by_set}
use Rattle.lu_lint.proofs.serial_runs.serial_hints.Goals as goal

pub returns-in-Set : goal.returns-in-Set
returns-in-Set c =
    let all = learnt_so c.args.test.component.now c.args.test.matrix.now c.args.bound c.in_ok-learnt.learnt (Set c.in-Set.set) c.in_ok-learnt.ensures.learnt c.in-Set.is in
    IfOk-weaker c.set_hints.result _ _ (λ hints is. shown_by_set c.args.test.component.now c.args.test.matrix.now c.args.bound (members_of c.in-Set.set) hints.items all c.set_hints.ensures.sorted is) c.set_hints.ensures.hints

pub hints_of_cut-requires : goal.hints_of_cut-requires
hints_of_cut-requires c =
    let all = learnt_so c.args.test.component.now c.args.test.matrix.now c.args.bound c.in_ok-learnt.learnt (Cut c.in-Cut.schedule) c.in_ok-learnt.ensures.learnt c.in-Cut.is in
    can_play c.args.test.component.now c.args.test.matrix.now c.args.bound c.in-Cut.schedule all

pub returns-in-Cut : goal.returns-in-Cut
returns-in-Cut c =
    let all = learnt_so c.args.test.component.now c.args.test.matrix.now c.args.bound c.in_ok-learnt.learnt (Cut c.in-Cut.schedule) c.in_ok-learnt.ensures.learnt c.in-Cut.is in
    IfOk-weaker c.hints_of_cut.result _ _ (λ hints are. shown_by_cut c.args.test.component.now c.args.test.matrix.now c.args.bound c.in-Cut.schedule hints.items all are) c.hints_of_cut.ensures

pub returns : goal.returns
returns c =
    let all = learnt_so c.args.test.component.now c.args.test.matrix.now c.args.bound c.in_ok-learnt.learnt (Conflict c.in-Conflict.schedule c.in-Conflict.before c.in-Conflict.earlier) c.in_ok-learnt.ensures.learnt c.in-Conflict.is in
    shown_by_conflict c.args.test.component.now c.args.test.matrix.now c.args.bound c.in-Conflict.schedule c.in-Conflict.before c.in-Conflict.earlier c.new.result.items all c.new.ensures.items
