use Rattle.std.proofs.Common.{◌≡◌, false, true}
use Rattle.lu_certify.proofs.Livelocks.{livelock_where}
use Rattle.lu_certify.proofs.livelock.seek_livelock.Goals as goal

pub returns-then-not-asks_for_lost-clause-livelock : goal.returns-then-not-asks_for_lost-clause-livelock
returns-then-not-asks_for_lost-clause-livelock g c = λ stands. (
  c.if-not-asks_for_lost.ensures.asks c.args.cut.component.now c.args.cut.limits c.args.cut.matrix.now c.args.cut.can_run.settles stands,
  (λ good live. let both : false ≡ true = c.if-not-asks_for_lost.ensures.good good in cc),
)

pub returns-clause-livelock : goal.returns-clause-livelock
returns-clause-livelock g c = λ stands.
    livelock_where c.args.cut.component.now c.args.cut.matrix.now c.args.cut.limits c.args.cut.can_run.settles c.args.standing.now c.found_or_seek.result
    (c.if-not-asks_for_lost.ensures.asks c.args.cut.component.now c.args.cut.limits c.args.cut.matrix.now c.args.cut.can_run.settles stands) c.found_or_seek.ensures.first
