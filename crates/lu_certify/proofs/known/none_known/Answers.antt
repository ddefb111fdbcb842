use Rattle.std.proofs.Common.{sym, subst}
use Rattle.lu_certify.specs.Looking.{AreKnown, IsFoundAt}
use Rattle.lu_certify.proofs.KnownCuts.{longer}
use Rattle.lu_certify.proofs.Looks.{nothing_at}
use Rattle.lu_certify.proofs.known.none_known.Goals as goal

pub loop-preserved : goal.loop-preserved
loop-preserved c = λ component m limits.
    subst (AreKnown component m limits) (sym c.in_ok-push.ensures.items)
    (longer (IsFoundAt component m limits) c.loop.known.items c.nothing.result (c.loop.invariant component m limits) (λ number. nothing_at component m limits number c.nothing.result c.nothing.ensures.judged c.nothing.ensures.lost))
