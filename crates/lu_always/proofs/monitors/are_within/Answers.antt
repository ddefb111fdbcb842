use Rattle.std.proofs.Common.{arith, subst, sym}
use Rattle.std.proofs.lemmas.List.{get_or_default, take_all}
use Rattle.lu_linearization.specs.Monitors.{Holds}
use Rattle.lu_always.proofs.Within.{within_next, within_none}
use Rattle.lu_always.proofs.monitors.are_within.Goals as goal

pub loop-one-init : goal.loop-one-init
loop-one-init c = within_none c.args.list.now

pub loop-one-preserved : goal.loop-one-preserved
loop-one-preserved c =
    within_next c.args.less.now c.args.list.now c.loop-one.one-index _ c.loop-one-test.true (λ d. get_or_default c.args.less.now c.loop-one.one-index d _ c.loop-one-test.true) (c.has_configuration.ensures c.if-not-has_configuration.false) c.loop-one.invariant

pub returns : goal.returns
returns c = λ _ d held.
    c.loop-one.invariant d (subst (λ xs. Holds xs d) (sym (take_all c.loop-one.one-index c.args.less.now (omega (arith, c.loop-one-test.false)))) held)
