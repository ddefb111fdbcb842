use Rattle.std.proofs.Common.{rules, refl, get_or}
use Rattle.std.proofs.lemmas.List.{get_or_default}
use Rattle.lu_test.specs.declared.schedule.Move.{Move}
use Rattle.lu_machine.specs.Steps.{IsFeasible}
use Rattle.lineup_c.proofs.Played.{not_feasible, played_more}
use Rattle.lineup_c.proofs.playing.play.Goals as goal

pub loop-number-init : goal.loop-number-init
loop-number-init c = rw c.new-events.ensures.items (refl, refl)

pub loop-number-preserved : goal.loop-number-preserved
loop-number-preserved c =
    let none : Move = record { thread = 0; pick = 0 } in
    let m : Move = get_or c.args.moves.now c.loop-number.number none in
    rw c.in_ok-extend.ensures
    (played_more c.args.machine.now c.args.moves.now c.loop-number.number c.loop-number.machine c.loop-number.events.items m c.step-event.new.self c.step-event.result c.loop-number.invariant c.loop-number-test.true (get_or_default c.args.moves.now c.loop-number.number none m c.loop-number-test.true) c.step-event.ensures.step)

pub returns-then-not-feasible-clause-fault : goal.returns-then-not-feasible-clause-fault
returns-then-not-feasible-clause-fault c =
    let none : Move = record { thread = 0; pick = 0 } in
    let m : Move = get_or c.args.moves.now c.loop-number.number none in
    let infeasible : IsFeasible c.loop-number.machine m → ⊥ = search rules in
    not_feasible c.args.machine.now c.args.moves.now c.loop-number.number c.loop-number.machine c.loop-number.events.items m none c.loop-number.invariant c.loop-number-test.true refl infeasible
