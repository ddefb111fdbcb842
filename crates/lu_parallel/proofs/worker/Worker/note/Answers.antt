use Rattle.std.proofs.Common.{refl}
use Rattle.lu_witness.specs.Goodness.{IsFirstBad, AreAllGood}
use Rattle.lu_witness.specs.Witnesses.{IsMember}
use Rattle.lu_tree.specs.Trees.{Below}
use Rattle.lu_parallel.specs.Works.{piece_at}
use Rattle.lu_parallel.proofs.Tallies.{holds_clean, holds_found}
use Rattle.lu_parallel.proofs.worker.Worker.note.Goals as goal

pub returns-in-Ok-Clean-clause-holds : goal.returns-in-Ok-Clean-clause-holds
returns-in-Ok-Clean-clause-holds g c = λ members found s is holds.
    (let Set = IsMember members in
    let pieces = c.args.job.now.pieces.now in
    let p = piece_at pieces c.args.piece in
    let bound = c.args.job.now.space.bound in
    let clean : AreAllGood Set s bound (Below p) c.in-Ok-Clean.counts = rw (c.in-Ok-Clean.is, c.in-Ok-Clean.field-0-is) at (found s is) in
    holds_clean Set s bound pieces c.args.seat.view c.args.self.now.counts c.args.self.now.found.items holds c.args.piece p c.settle.new.seat.view c.in-Ok-Clean.counts c.plus-self.result
    refl c.settle.ensures.settled c.plus-self.ensures clean)

pub returns-else-is_err-clause-holds : goal.returns-else-is_err-clause-holds
returns-else-is_err-clause-holds g c = λ members found s is holds.
    (let Set = IsMember members in
    let pieces = c.args.job.now.pieces.now in
    let p = piece_at pieces c.args.piece in
    let bound = c.args.job.now.space.bound in
    let bad : IsFirstBad Set s bound (Below p) c.in-Ok-Bad.schedule c.in-Ok-Bad.why = rw (c.in-Ok-Bad.is, c.in-Ok-Bad.field-0-is) at (found s is) in
    holds_found Set s bound pieces c.args.seat.view c.args.self.now.counts c.args.self.now.found.items holds c.args.piece c.lower.new.seat.view.seen p c.in-Ok-Bad.schedule c.in-Ok-Bad.why c.lower.new.seat.view c.push_reserved.new.self.items
    refl c.lower.ensures.found (rw c.reserve.ensures.items at c.push_reserved.ensures.items) bad)
