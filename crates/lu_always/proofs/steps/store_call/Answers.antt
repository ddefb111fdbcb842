use Rattle.std.proofs.Common.{◌∙◌, ap}
use Rattle.lu_machine.specs.Positions.{at_position}
use Rattle.lu_machine.specs.States.{State}
use Rattle.lu_always.proofs.Keeping.{base_grows, base_stand, home_again, moved_base, stored_position}
use Rattle.lu_always.proofs.StepsMade.{adds_called, call_made}
use Rattle.lu_always.proofs.steps.store_call.Goals as goal

pub stand_at-requires : goal.stand_at-requires
stand_at-requires c =
    let a = c.args.machine.now in
    let b = c.client_step.new.machine in
    let same = moved_base c.args.given.rounds a c.args.call b c.in_ok-event.event c.in_ok-event.ensures.step in
    rw c.in_ok-store_moves.ensures.home (base_stand a b (stored_position c.args.home.now) same c.requires.stands)

pub returns-clause-home : goal.returns-clause-home
returns-clause-home c =
    let a = c.args.machine.now in
    let b = c.client_step.new.machine in
    let same = moved_base c.args.given.rounds a c.args.call b c.in_ok-event.event c.in_ok-event.ensures.step in
    home_again a b c.stand_at.new.self (stored_position c.args.home.now) same c.requires.here (c.stand_at.ensures ∙ ap (λ (x : State). at_position x c.args.home.now) c.in_ok-store_moves.ensures.home)

pub returns-clause-grows : goal.returns-clause-grows
returns-clause-grows c =
    let a = c.args.machine.now in
    let b = c.client_step.new.machine in
    base_grows a b c.args.all.now c.store_moves.new.all (moved_base c.args.given.rounds a c.args.call b c.in_ok-event.event c.in_ok-event.ensures.step) c.in_ok-store_moves.ensures.grows

pub returns-clause-next : goal.returns-clause-next
returns-clause-next c =
    call_made c.args.given.dead.now c.args.given.rounds c.args.given.table.now c.args.machine.now c.args.monitor.now c.args.call c.client_step.new.machine c.in_ok-event.event c.in_ok-after.after
    c.in_ok-event.ensures.step c.in_ok-after.ensures c.store_moves.new.all c.in_ok-store_moves.ensures.moves

pub returns-clause-new : goal.returns-clause-new
returns-clause-new c =
    adds_called c.args.given.dead.now c.args.given.rounds c.args.given.table.now c.args.machine.now c.args.monitor.now c.args.call c.client_step.new.machine c.in_ok-event.event c.in_ok-after.after
    c.in_ok-event.ensures.step c.in_ok-after.ensures c.args.at c.args.all.now c.store_moves.new.all c.in_ok-store_moves.ensures.new

pub store_moves-requires-clause-beside : goal.store_moves-requires-clause-beside
store_moves-requires-clause-beside c = λ none. absurd cc
