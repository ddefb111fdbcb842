use Rattle.lu_certify.proofs.Livelocks.{first_lost_of}
use Rattle.lu_certify.proofs.livelock.find_lost.Goals as goal

pub returns-clause-first : goal.returns-clause-first
returns-clause-first g c = first_lost_of c.args.cut.component.now c.args.cut.matrix.now c.args.cut.limits c.first_lost_watched.result c.first_lost_watched.ensures.first
