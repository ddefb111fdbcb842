use Rattle.std.proofs.Common.{subst}
use Rattle.lu_serial_graph.specs.Graphs.{members_of}
use Rattle.lu_serial_graph.specs.Learning.{IsLearntGraph}
use Rattle.lu_certify.proofs.Proved.{none_shown, shown_by}
use Rattle.lu_certify.proofs.judging.search_nodes.Goals as goal

pub ends_well_watched-requires-clause-runs : goal.ends_well_watched-requires-clause-runs
ends_well_watched-requires-clause-runs g c = c.args.cut.can_run

pub ends_well_watched-requires-clause-running : goal.ends_well_watched-requires-clause-running
ends_well_watched-requires-clause-running g c = c.requires.running

pub returns-in-Set-clause-shown : goal.returns-in-Set-clause-shown
returns-in-Set-clause-shown g c =
    shown_by c.args.cut.component.now c.args.cut.matrix.now c.args.cut.limits c.args.cut.can_run.settles (members_of c.in-Set.graph)
    (λ s at. subst (IsLearntGraph s c.args.cut.limits.serial) c.in-Set.is (c.in_ok-graph.ensures.learnt s at)) c.in_ok-ending-in-Set.ending c.of.result c.in_ok-ending-in-Set.ensures.endings c.of.ensures

pub returns-in-Cut-clause-shown : goal.returns-in-Cut-clause-shown
returns-in-Cut-clause-shown g c =
    none_shown c.args.cut.component.now c.args.cut.matrix.now c.args.cut.limits c.args.cut.can_run.settles
    (λ s at. let offence = subst (IsLearntGraph s c.args.cut.limits.serial) c.in-Cut.is (c.in_ok-graph.ensures.learnt s at) in (_, offence.0.kind))

pub returns-clause-shown : goal.returns-clause-shown
returns-clause-shown g c =
    none_shown c.args.cut.component.now c.args.cut.matrix.now c.args.cut.limits c.args.cut.can_run.settles
    (λ s at. let offence = subst (IsLearntGraph s c.args.cut.limits.serial) c.in-Conflict.is (c.in_ok-graph.ensures.learnt s at) in (_, offence.0.kind))
