use Rattle.std.proofs.Common.{arith, ◌≡◌, refl, Bool, true, false, below_more}
use Rattle.lu_history.specs.Histories.{HasPending}
use Rattle.lu_conform.proofs.Ended.{none_pending}
use Rattle.lu_conform.proofs.ending.has_pending.Goals as goal

different : (b : Bool) → b ≡ true → b ≡ false → ⊥
different true p q = cc
different false p q = cc

pub loop-t-init : goal.loop-t-init
loop-t-init c = record { well_formed = λ lt. absurd (omega arith); none = λ t lt. absurd (omega arith) }

pub returns-then-pending : goal.returns-then-pending
returns-then-pending c =
    let there = c.pending.ensures.call.0 c.if-pending.true in
    ((λ x. (record { t = c.loop-t.t; k = there.0 }, there.1)), (λ x. refl))

pub loop-t-preserved : goal.loop-t-preserved
loop-t-preserved c = record {
  well_formed = λ lt. c.pending.ensures.well_formed;
  none = below_more (λ t. HasPending t c.args.history.now → ⊥) c.loop-t.t c.loop-t.invariant.none (λ some. (let said = c.pending.ensures.call.1 some in absurd (different c.pending.result said c.if-pending.false)));
}

pub returns : goal.returns
returns c = ((λ x. absurd (cc)), (λ some. absurd (none_pending c.args.history.now (c.loop-t.invariant.well_formed (omega arith)) (λ t lt. c.loop-t.invariant.none t (omega arith)) some)))
