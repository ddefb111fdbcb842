use Rattle.lu_always.specs.Exits.{AreReached}
use Rattle.lu_always.proofs.Exiting.{Below}
use Rattle.lu_always.proofs.StepsMade.{MovesBefore}
use Rattle.lu_always.proofs.steps.store_moves.Given as goal

abbrev pub invariant-loop-pick : goal.invariant-loop-pick
invariant-loop-pick l = MovesBefore l.fn.given.dead.now l.fn.given.rounds l.fn.given.table.now l.fn.machine l.fn.monitor l.fn.origin l.fn.thread l.fn.all l.machine l.all l.pick × AreReached (Below l.fn.thread l.pick) l.fn.given.dead.now l.fn.given.rounds l.all l.indexes.items l.fn.machine
