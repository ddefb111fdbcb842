use Rattle.std.proofs.Common.{rules, ◌≡◌, ◌<◌}
use Rattle.lu_machine.specs.Steps.{picks_of}
use Rattle.lu_always.proofs.Exiting.{exits_open, exits_shut, exits_stopped}
use Rattle.lu_always.proofs.Standings.{not_waiting, waiting_opens}
use Rattle.lu_always.proofs.StepsMade.{adds_alone, steps_call, steps_none, steps_open}
use Rattle.lu_always.proofs.steps.store_steps.Goals as goal

pub returns-then-is_waiting-clause-steps : goal.returns-then-is_waiting-clause-steps
returns-then-is_waiting-clause-steps c =
    steps_open c.args.given.dead.now c.args.given.rounds c.args.given.table.now c.args.machine.now c.args.monitor.now c.args.thread c.store_moves.new.all
    (waiting_opens c.args.machine.now c.args.thread c.is_waiting.result c.is_waiting.ensures c.if-is_waiting.true) c.in_ok-exits.ensures.moves

pub returns-then-is_waiting-clause-new : goal.returns-then-is_waiting-clause-new
returns-then-is_waiting-clause-new c =
    adds_alone c.args.given.dead.now c.args.given.rounds c.args.given.table.now c.args.machine.now c.args.monitor.now c.args.at c.args.all.now c.store_moves.new.all c.in_ok-exits.ensures.new

pub returns-then-picks-eq0-clause-steps : goal.returns-then-picks-eq0-clause-steps
returns-then-picks-eq0-clause-steps c =
    let none : picks_of c.args.machine.now c.args.thread ≡ 0 = search rules in
    steps_none c.args.given.dead.now c.args.given.rounds c.args.given.table.now c.args.machine.now c.args.monitor.now c.args.thread c.args.all.now none

pub returns-clause-steps : goal.returns-clause-steps
returns-clause-steps c =
    let some : 0 < picks_of c.args.machine.now c.args.thread = search rules in
    steps_call c.args.given.dead.now c.args.given.rounds c.args.given.table.now c.args.machine.now c.args.monitor.now c.args.thread c.store_call.new.all
    (not_waiting c.args.machine.now c.args.thread c.is_waiting.result c.is_waiting.ensures c.if-is_waiting.false) some c.in_ok-store_call.ensures.next

pub returns-then-is_waiting-clause-exits : goal.returns-then-is_waiting-clause-exits
returns-then-is_waiting-clause-exits c =
    exits_open c.args.given.dead.now c.args.given.rounds c.args.machine.now c.args.thread c.store_moves.new.all c.in_ok-exits.exits.items
    (waiting_opens c.args.machine.now c.args.thread c.is_waiting.result c.is_waiting.ensures c.if-is_waiting.true) c.in_ok-exits.ensures.reached

pub returns-then-picks-eq0-clause-exits : goal.returns-then-picks-eq0-clause-exits
returns-then-picks-eq0-clause-exits c =
    let none : picks_of c.args.machine.now c.args.thread ≡ 0 = search rules in
    exits_stopped c.args.given.dead.now c.args.given.rounds c.args.machine.now c.args.thread c.args.all.now c.new.result.items c.new.ensures.items none

pub returns-clause-exits : goal.returns-clause-exits
returns-clause-exits c =
    exits_shut c.args.given.dead.now c.args.given.rounds c.args.machine.now c.args.thread c.store_call.new.all c.new-2.result.items c.new-2.ensures.items
    (not_waiting c.args.machine.now c.args.thread c.is_waiting.result c.is_waiting.ensures c.if-is_waiting.false)

pub store_moves-requires-clause-beside : goal.store_moves-requires-clause-beside
store_moves-requires-clause-beside c = λ none. c.requires.at
