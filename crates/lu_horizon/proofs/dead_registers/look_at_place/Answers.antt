use Rattle.std.proofs.Common.{arith}
use Rattle.lu_horizon.proofs.RoundLaws.{round_none, round_then, settled_all, settled_more}
use Rattle.lu_horizon.proofs.dead_registers.look_at_place.Goals as goal

pub loop-register-init : goal.loop-register-init
loop-register-init c = record {
  round = round_none c.args.code.now c.args.known.now.items;
  settled = λ _ r less. absurd (omega (arith, less));
  eight = λ some. absurd (omega (arith, some));
}

pub loop-register-preserved : goal.loop-register-preserved
loop-register-preserved c =
    let code = c.args.code.now in
    let before = c.loop-register in
    let after = c.look_at-less in
    record {
      round = round_then code c.args.known.now.items before.known.items after.new.known.items before.less after.result before.invariant.round after.ensures.round;
      settled = settled_more code before.known.items after.new.known.items c.args.place before.register before.less after.result after.ensures.round before.invariant.settled after.ensures.settled;
      eight = λ _. after.ensures.eight;
    }

pub returns : goal.returns
returns c =
    let code = c.args.code.now in
    let end = c.loop-register in
    record {
      round = end.invariant.round;
      settled = λ none. settled_all code end.known.items c.args.place end.register (omega (arith, end.invariant.eight (omega (arith, c.loop-register-test.false)), c.loop-register-test.false)) (end.invariant.settled none);
    }
