use Rattle.std.proofs.Common.{rules, ◌≡◌}
use Rattle.std.specs.Vec.Iter.{into_iter_items}
use Rattle.std.proofs.lemmas.List.Elements.{All-push}
use Rattle.lu_parallel.specs.Works.{IsFresh}
use Rattle.lu_parallel.proofs.Ends.{all_rest}
use Rattle.lu_parallel.proofs.worker_threads.run_in.Goals as goal

pub loop-seat-preserved : goal.loop-seat-preserved
loop-seat-preserved g c =
    let was = c.loop-seat.invariant in let pushed = c.push_reserved in (
      all_rest (IsFresh c.args.job.board.now.board) (into_iter_items c.loop-seat.seat-iterator) c.in-Some.seat (into_iter_items c.next.new.self) (search rules) was.0,
      search rules,
      search rules,
      search rules,
      rw pushed.ensures.items
          (All-push (λ h. h.promise ≡ c.args.job)
          c.loop-seat.children.items c.in-Ok.child was.4 (search rules)),
    )
