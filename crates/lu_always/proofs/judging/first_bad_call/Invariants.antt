use Rattle.std.proofs.Common.{◌≡◌}
use Rattle.lu_always.proofs.CallsJudged.{AreFineBefore}
use Rattle.lu_always.proofs.judging.first_bad_call.Given as goal

abbrev pub invariant-loop-thread : goal.invariant-loop-thread
invariant-loop-thread l = record {
  same : l.machine ≡ l.fn.machine;
  fine : AreFineBefore l.fn.given.rounds l.fn.given.table.now l.fn.machine l.fn.monitor l.thread;
}
