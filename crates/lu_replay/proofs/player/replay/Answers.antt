use Rattle.std.proofs.Common.{rules, refl, get_or}
use Rattle.std.proofs.lemmas.List.{get_or_default}
use Rattle.lu_test.specs.declared.schedule.Move.{Move}
use Rattle.lu_machine.specs.Steps.{IsFeasible}
use Rattle.lu_replay.proofs.Playing.{fits_played, played_all, played_more, played_none, played_to}
use Rattle.lu_replay.proofs.player.replay.Goals as goal

pub loop-index-init : goal.loop-index-init
loop-index-init c =
    rw c.new-history.ensures
    (played_none c.args.component.now c.args.matrix.now c.in_ok-machine.machine c.moves-next-items.result.now c.in_ok-machine.ensures.starts)

pub returns-then-not-feasible-clause-fault : goal.returns-then-not-feasible-clause-fault
returns-then-not-feasible-clause-fault c =
    let none : Move = record { thread = 0; pick = 0 } in
    let m : Move = get_or c.moves-next-items.result.now c.loop-index.index none in
    let infeasible : IsFeasible c.loop-index.machine m → ⊥ = search rules in
    played_to c.args.component.now c.args.matrix.now c.in_ok-machine.machine c.moves-next-items.result.now c.args.schedule.now c.loop-index.index c.loop-index.machine c.loop-index.history m none c.in_ok-machine.ensures.starts c.moves-next-items.ensures.moves c.loop-index-test.true refl c.loop-index.invariant infeasible

pub extend-requires : goal.extend-requires
extend-requires c =
    let none : Move = record { thread = 0; pick = 0 } in
    fits_played c.in_ok-machine.machine c.moves-next-items.result.now c.loop-index.index c.loop-index.machine c.loop-index.history (get_or c.moves-next-items.result.now c.loop-index.index none) c.step-event.new.self c.step-event.result c.loop-index.invariant c.step-event.ensures.step c.step-event.ensures.range

pub loop-index-preserved : goal.loop-index-preserved
loop-index-preserved c =
    let none : Move = record { thread = 0; pick = 0 } in
    let m : Move = get_or c.moves-next-items.result.now c.loop-index.index none in
    let fits = fits_played c.in_ok-machine.machine c.moves-next-items.result.now c.loop-index.index c.loop-index.machine c.loop-index.history m c.step-event.new.self c.step-event.result c.loop-index.invariant c.step-event.ensures.step c.step-event.ensures.range in
    rw c.in_ok-extend.ensures
    (played_more c.in_ok-machine.machine c.moves-next-items.result.now c.loop-index.index c.loop-index.machine c.loop-index.history m c.step-event.new.self c.step-event.result c.loop-index.invariant c.loop-index-test.true (get_or_default c.moves-next-items.result.now c.loop-index.index none m c.loop-index-test.true) c.step-event.ensures.step fits)

pub returns-clause-shows : goal.returns-clause-shows
returns-clause-shows c =
    (c.loop-index.machine, played_all c.args.component.now c.args.matrix.now c.in_ok-machine.machine c.moves-next-items.result.now c.args.schedule.now c.loop-index.index c.loop-index.machine c.loop-index.history c.in_ok-machine.ensures.starts c.moves-next-items.ensures.moves c.loop-index-test.false c.loop-index.invariant, c.status-status.ensures)

pub returns-clause-well_formed : goal.returns-clause-well_formed
returns-clause-well_formed c = c.loop-index.invariant.well_formed
