use Rattle.std.proofs.Common.{◌≡◌, Ok, IfOk, subst}
use Rattle.std.proofs.lemmas.Result.{IfOk-weaker}
use Rattle.lu_graph.specs.Hopeless.{FindsFirstLost}
use Rattle.lu_graph.proofs.losing.first_lost.Goals as goal

pub returns : goal.returns
returns c = λ s is.
    IfOk-weaker c.unhalted.result (λ found. c.first_lost_watched.result ≡ Ok found) (FindsFirstLost c.args.most s)
    (λ found same. subst (λ answer. IfOk answer (FindsFirstLost c.args.most s)) same (c.first_lost_watched.ensures.first s is)) c.unhalted.ensures.only
