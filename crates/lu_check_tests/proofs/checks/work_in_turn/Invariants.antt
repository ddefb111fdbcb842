use Rattle.std.proofs.Common.{◌≡◌, ◌+◌, All, length}
use Rattle.std.specs.Vec.Iter.{into_iter_items}
use Rattle.lu_parallel.specs.Works.{IsFresh, IsSpentWork}
use Rattle.lu_check_tests.proofs.checks.work_in_turn.Given as goal

abbrev pub invariant-loop-seat : goal.invariant-loop-seat
invariant-loop-seat g l =
    All (IsFresh l.board.board) (into_iter_items l.seat-iterator)
    × (length l.works.items + length (into_iter_items l.seat-iterator) ≡ length l.fn.seats.items)
    × All (IsSpentWork l.board.board) l.works.items
