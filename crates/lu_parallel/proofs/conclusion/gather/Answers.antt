use Rattle.std.proofs.Common.{rules}
use Rattle.std.specs.Vec.Iter.{into_iter_items}
use Rattle.lu_parallel.specs.Conclusions.{seats_of, counts_of_works, founds_of}
use Rattle.lu_parallel.proofs.Ends.{seats_step, counts_step, founds_step}
use Rattle.lu_parallel.proofs.conclusion.gather.Goals as goal

pub loop-work-preserved : goal.loop-work-preserved
loop-work-preserved c =
    let was = c.loop-work.invariant in
    let rest = into_iter_items c.loop-work.work-iterator in
    let more = into_iter_items c.next.new.self in
    let w = c.in-Some.work in
    let all = c.args.works.items in (
      seats_step c.loop-work.seats.items c.push.new.self.items (seats_of all) rest more w (search rules) c.in_ok-push.ensures.items was.0,
      counts_step c.loop-work.counts c.plus-counts.result (counts_of_works all) rest more w (search rules) c.plus-counts.ensures was.1,
      founds_step c.loop-work.found.items c.append.new.self.items (founds_of all) rest more w (search rules) c.in_ok-append.ensures.items was.2,
    )
