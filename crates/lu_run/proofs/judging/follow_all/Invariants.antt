use Rattle.std.proofs.Common.{take, drop}
use Rattle.lu_run.specs.Judging.{Foresees, IsReady, OfEachRun}
use Rattle.lu_run.specs.Offending.{Learns}
use Rattle.lu_run.specs.Runs.{history_of}
use Rattle.lu_run.proofs.Failing.{LostSoFar}
use Rattle.lu_run.proofs.judging.follow_all.Given as goal

abbrev pub invariant-loop-number : goal.invariant-loop-number
invariant-loop-number l = record {
  ready : IsReady l.fn.runs.component.now l.fn.runs.calls.now l.table l.follower;
  learns : Learns l.fn.runs.component.now l.fn.runs.calls.now l.fn.table l.table;
  foreseen : OfEachRun l.fn.runs.component.now l.fn.runs.calls.now l.fn.table l.events (λ s all. Foresees l.fn.runs.component.now s l.fn.runs.calls.now all l.table l.follower (history_of (take l.number l.events)) (drop l.number l.events));
  lost : OfEachRun l.fn.runs.component.now l.fn.runs.calls.now l.fn.table l.events (λ s all. LostSoFar s l.events l.number l.lost l.follower.monitor);
}
