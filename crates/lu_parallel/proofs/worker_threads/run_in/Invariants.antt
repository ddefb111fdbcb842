use Rattle.std.proofs.Common.{◌≡◌, ◌+◌, ◌≤◌, vec_len}
use Rattle.std.specs.Prelude.{All, vec_capacity}
use Rattle.std.specs.Vec.Iter.{into_iter_items, into_iter_len}
use Rattle.lu_parallel.specs.Works.{IsFresh}
use Rattle.lu_parallel.proofs.worker_threads.run_in.Given as goal

abbrev pub invariant-loop-seat : goal.invariant-loop-seat
invariant-loop-seat g l =
    All (IsFresh l.job.board.now.board) (into_iter_items l.seat-iterator)
    × (vec_len l.children + into_iter_len l.seat-iterator ≡ vec_len l.fn.seats)
    × (l.number ≡ vec_len l.children)
    × (vec_len l.fn.seats ≤ vec_capacity l.children)
    × All (λ h. h.promise ≡ l.job) l.children.items
