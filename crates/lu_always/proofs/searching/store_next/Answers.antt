use Rattle.lu_always.proofs.Exiting.{moves_made}
use Rattle.lu_always.proofs.Keeping.{adds_made, base_grows, base_stand, cleared_base, home_again, next_made, stored_position}
use Rattle.lu_always.proofs.searching.store_next.Goals as goal

pub stand_at-requires : goal.stand_at-requires
stand_at-requires c =
    let a = c.args.machine.now in
    let cleared = c.store_after.new.machine in
    let same = cleared_base c.args.given.dead.now c.args.given.rounds a c.args.arrival.by c.client_step.new.machine c.in_ok-event.event cleared c.in_ok-event.ensures.step c.in_ok-to.ensures.clear in
    base_stand a cleared (stored_position c.args.home.now) same c.requires.stands

pub returns-clause-home : goal.returns-clause-home
returns-clause-home c =
    let a = c.args.machine.now in
    let cleared = c.store_after.new.machine in
    let same = cleared_base c.args.given.dead.now c.args.given.rounds a c.args.arrival.by c.client_step.new.machine c.in_ok-event.event cleared c.in_ok-event.ensures.step c.in_ok-to.ensures.clear in
    home_again a cleared c.stand_at.new.self (stored_position c.args.home.now) same c.requires.here c.stand_at.ensures

pub returns-clause-grows : goal.returns-clause-grows
returns-clause-grows c =
    let a = c.args.machine.now in
    let cleared = c.store_after.new.machine in
    let same = cleared_base c.args.given.dead.now c.args.given.rounds a c.args.arrival.by c.client_step.new.machine c.in_ok-event.event cleared c.in_ok-event.ensures.step c.in_ok-to.ensures.clear in
    base_grows a cleared c.args.all.now c.store_after.new.all same c.in_ok-to.ensures.grows

pub returns-clause-next : goal.returns-clause-next
returns-clause-next c =
    next_made c.args.given.dead.now c.args.given.rounds c.args.given.table.now c.args.machine.now c.args.arrival.by c.client_step.new.machine c.in_ok-event.event c.store_after.new.machine c.store_after.new.all c.in_ok-to.to c.args.monitor.now c.in_ok-to.ensures.after
    c.in_ok-event.ensures.step c.in_ok-to.ensures.clear c.in_ok-to.ensures.there c.in_ok-to.ensures.follows

pub returns-clause-new : goal.returns-clause-new
returns-clause-new c =
    adds_made c.args.given.dead.now c.args.given.rounds c.args.given.table.now c.args.machine.now c.args.arrival c.client_step.new.machine c.in_ok-event.event c.store_after.new.machine c.args.all.now c.store_after.new.all c.args.monitor.now c.in_ok-to.ensures.after
    c.in_ok-event.ensures.step c.in_ok-to.ensures.clear c.in_ok-to.ensures.follows c.in_ok-to.ensures.only

pub returns-clause-leads : goal.returns-clause-leads
returns-clause-leads c =
    moves_made c.args.given.dead.now c.args.given.rounds c.args.machine.now c.args.arrival.by c.client_step.new.machine c.in_ok-event.event c.store_after.new.machine c.store_after.new.all c.in_ok-to.to c.in_ok-to.ensures.after
    c.in_ok-event.ensures.step c.in_ok-to.ensures.clear c.in_ok-to.ensures.there
