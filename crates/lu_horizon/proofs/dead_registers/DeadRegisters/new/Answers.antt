use Rattle.std.proofs.Common.{ap, arith, ◌≤◌, ◌∷◌, [], length, length-append}
use Rattle.lu_horizon.proofs.DeadLaws.{dead_push}
use Rattle.lu_horizon.proofs.RoundLaws.{live_all, live_push, tells_dead, within_op, within_push}
use Rattle.lu_horizon.proofs.dead_registers.DeadRegisters.new.Goals as goal

pub loop-op-preserved : goal.loop-op-preserved
loop-op-preserved c =
    let component = c.args.component.now in
    let operations = c.loop-op.operations.items in
    let code = c.code_of.result.now in
    let places = c.in_ok-dead_in.field-0 in
    record {
      many = rw c.in_ok-push.ensures.items (omega (arith, c.loop-op.invariant.many, length-append operations (places ∷ [])));
      table = rw c.in_ok-push.ensures.items (dead_push component operations c.loop-op.op code places c.loop-op.invariant.many c.code_of.ensures.code c.in_ok-dead_in.ensures.sound c.loop-op.invariant.table);
      within = rw c.in_ok-push.ensures.items (within_push component operations c.loop-op.op places c.loop-op.invariant.many (within_op component c.loop-op.op code places c.code_of.ensures.code c.in_ok-dead_in.ensures.within) c.loop-op.invariant.within);
      live = rw c.in_ok-push.ensures.items (live_push component operations c.loop-op.op places c.loop-op.invariant.many (c.in_ok-dead_in.ensures.exact component c.loop-op.op c.operations.ensures.sound c.code_of.ensures.code) c.loop-op.invariant.live);
    }

pub returns-clause-exact : goal.returns-clause-exact
returns-clause-exact c =
    let many = ap length c.operations.ensures.operations in
    let all : length c.args.component.now.operations ≤ length c.loop-op.operations.items = omega (arith, c.loop-op-test.false, c.loop-op.invariant.many, many) in
    tells_dead c.args.component.now c.loop-op.operations.items c.loop-op.invariant.table (live_all c.args.component.now c.loop-op.operations.items all c.loop-op.invariant.live) c.loop-op.invariant.within
