use Rattle.lu_pieces.proofs.Kids.{HasKidsBelow}
use Rattle.lu_pieces.proofs.pieces.add_kids.Given as goal

abbrev pub invariant-loop-thread : goal.invariant-loop-thread
invariant-loop-thread l = HasKidsBelow l.machine l.piece l.fn.next.items l.next.items (record { thread = l.thread; pick = 0 })

abbrev pub invariant-loop-pick : goal.invariant-loop-pick
invariant-loop-pick l = HasKidsBelow l.machine l.piece l.fn.next.items l.next.items (record { thread = l.thread; pick = l.pick })
