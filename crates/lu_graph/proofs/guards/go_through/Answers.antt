use Rattle.std.proofs.Common.{arith}
use Rattle.lu_graph.proofs.Critical.{round_then, settled_all, settled_more}
use Rattle.lu_graph.proofs.guards.go_through.Goals as goal

pub loop-place-preserved : goal.loop-place-preserved
loop-place-preserved c =
    let code = c.args.code.now in
    let before = c.loop-place in
    let after = c.look_at-less in
    record {
      round = round_then code c.args.lock c.args.places.now.items before.places.items after.new.places.items before.less after.result before.invariant.round after.ensures.round;
      settled = settled_more code c.args.lock before.places.items after.new.places.items before.place before.less after.result after.ensures.round before.invariant.settled after.ensures.settled;
    }

pub returns-clause-settled : goal.returns-clause-settled
returns-clause-settled c = λ none.
    settled_all c.args.code.now c.args.lock c.loop-place.places.items c.loop-place.place (omega (arith, c.loop-place-test.false)) (c.loop-place.invariant.settled none)
