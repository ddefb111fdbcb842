use Rattle.std.proofs.Common.{arith, ◌-◌, length, refl}
use Rattle.lu_horizon.proofs.RoundLaws.{places_more, places_none_yet, round_none, round_then}
use Rattle.lu_horizon.proofs.dead_registers.go_through.Goals as goal

pub loop-back-init : goal.loop-back-init
loop-back-init c = record {
  round = round_none c.args.code.now c.args.known.now.items;
  settled = λ _. places_none_yet c.args.code.now c.args.known.now.items;
}

pub loop-back-preserved : goal.loop-back-preserved
loop-back-preserved c =
    let code = c.args.code.now in
    let before = c.loop-back in
    let after = c.look_at_place-less in
    record {
      round = round_then code c.args.known.now.items before.known.items after.new.known.items before.less after.result before.invariant.round after.ensures.round;
      settled = places_more code before.known.items after.new.known.items before.back (length code - 1 - before.back) before.less after.result c.loop-back-test.true refl after.ensures.round before.invariant.settled after.ensures.settled;
    }

pub returns : goal.returns
returns c =
    let end = c.loop-back in
    record {
      round = end.invariant.round;
      settled = λ none place. end.invariant.settled none place (omega (arith, c.loop-back-test.false));
    }
