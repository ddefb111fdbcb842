use Rattle.std.proofs.Common.{arith}
use Rattle.std.proofs.lemmas.List.{get_or_default}
use Rattle.lu_linearization.proofs.Held.{joins_end, joins_next}
use Rattle.lu_linearization.proofs.configuration.add_all.Goals as goal

pub loop-one-preserved : goal.loop-one-preserved
loop-one-preserved c = joins_next c.args.all.now.items c.loop-one.all.items c.add.new.all.items c.args.more.now c.loop-one.one-index _ c.loop-one.invariant c.loop-one-test.true (λ d. get_or_default c.args.more.now c.loop-one.one-index d _ c.loop-one-test.true) c.in_ok-add.ensures

pub returns : goal.returns
returns c = joins_end c.args.all.now.items c.loop-one.all.items c.args.more.now c.loop-one.one-index (omega (arith, c.loop-one-test.false)) c.loop-one.invariant
