use Rattle.std.proofs.Common.{None, Some, subst}
use Rattle.lu_serial.specs.Offences.{IsFirstOutside}
use Rattle.lu_serial_graph.specs.Graphs.{members_of}
use Rattle.lu_serial_graph.specs.Learning.{IsLearntGraph}
use Rattle.lu_survey.proofs.OtherRuns.{agrees_serially, cut_other, first_outside_other, found_outside, never_conflict, subset_agrees}
use Rattle.lu_survey.proofs.serially.first_other_run.Goals as goal

pub returns-then-branch : goal.returns-then-branch
returns-then-branch c =
    subset_agrees c.args.component.now c.args.matrix.now c.args.serial (members_of c.in-Set.graph) (members_of c.args.set.now)
    (λ s at. subst (IsLearntGraph s c.args.serial) c.in-Set.is (c.in_ok-graph.ensures.learnt s at))
    (c.in_ok-is_subset-in-Set.ensures.0 c.if-branch.true)

pub returns-in-Set : goal.returns-in-Set
returns-in-Set c =
    found_outside c.args.component.now c.args.matrix.now c.args.serial (members_of c.args.set.now) c.first_outside_tree.result c.first_outside_tree.ensures
    (λ none. agrees_serially c.args.component.now c.args.matrix.now c.args.serial (members_of c.args.set.now) none
    (λ s at. (subst (IsLearntGraph s c.args.serial) c.in-Set.is (c.in_ok-graph.ensures.learnt s at)).none))

pub returns-in-Some : goal.returns-in-Some
returns-in-Some c =
    first_outside_other c.args.component.now c.args.matrix.now c.args.serial (members_of c.args.set.now) c.in-Some.outside
    (λ s at. subst (IsFirstOutside s c.args.serial (members_of c.args.set.now)) c.in-Some.is (c.in_ok-outside-in-Cut.ensures s at))

pub returns-in-Cut : goal.returns-in-Cut
returns-in-Cut c =
    cut_other c.args.component.now c.args.matrix.now c.args.serial (members_of c.args.set.now)
    (λ s at. subst (IsFirstOutside s c.args.serial (members_of c.args.set.now)) c.in-None.is (c.in_ok-outside-in-Cut.ensures s at)) c.in-Cut.schedule
    (λ s at. subst (IsLearntGraph s c.args.serial) c.in-Cut.is (c.in_ok-graph.ensures.learnt s at))

pub returns : goal.returns
returns c =
    found_outside c.args.component.now c.args.matrix.now c.args.serial (members_of c.args.set.now) c.first_outside_tree-in-Conflict.result c.first_outside_tree-in-Conflict.ensures
    (λ none. absurd (never_conflict c.args.component.now c.args.matrix.now c.args.serial (members_of c.args.set.now) none c.requires.of.settles c.requires.deterministic
    c.in-Conflict.schedule c.in-Conflict.before c.in-Conflict.earlier
    (λ s at. subst (IsLearntGraph s c.args.serial) c.in-Conflict.is (c.in_ok-graph.ensures.learnt s at))))
