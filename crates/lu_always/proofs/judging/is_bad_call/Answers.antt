use Rattle.std.proofs.Common.{rules}
use Rattle.lu_always.proofs.CallsJudged.{call_of, moving_is_fine}
use Rattle.lu_always.proofs.Keeping.{base_stand, home_again, moved_base, stored_position}
use Rattle.lu_always.proofs.judging.is_bad_call.Goals as goal

pub stand_at-requires : goal.stand_at-requires
stand_at-requires c =
    let a = c.args.machine.now in
    let b = c.client_step.new.machine in
    base_stand a b (stored_position c.args.home.now) (moved_base c.args.given.rounds a (call_of c.args.thread) b c.in_ok-client_step.field-0 c.in_ok-client_step.ensures.step) c.requires.stands

pub returns-then-is_blocked-clause-home : goal.returns-then-is_blocked-clause-home
returns-then-is_blocked-clause-home c =
    let a = c.args.machine.now in
    let b = c.client_step.new.machine in
    home_again a b c.stand_at.new.self (stored_position c.args.home.now) (moved_base c.args.given.rounds a (call_of c.args.thread) b c.in_ok-client_step.field-0 c.in_ok-client_step.ensures.step) c.requires.here c.stand_at.ensures

pub returns-clause-home : goal.returns-clause-home
returns-clause-home c =
    let a = c.args.machine.now in
    let b = c.client_step.new.machine in
    home_again a b c.stand_at.new.self (stored_position c.args.home.now) (moved_base c.args.given.rounds a (call_of c.args.thread) b c.in_ok-client_step.field-0 c.in_ok-client_step.ensures.step) c.requires.here c.stand_at.ensures

pub returns-clause-fine : goal.returns-clause-fine
returns-clause-fine c = λ _.
    moving_is_fine c.args.given.rounds c.args.given.table.now c.args.machine.now c.args.monitor.now c.args.thread c.client_step.new.machine c.in_ok-client_step.field-0 c.in_ok-client_step.ensures.step
    (search rules)
