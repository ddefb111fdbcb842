use Rattle.lu_run.specs.Finding.{AreSound}
use Rattle.lu_run.specs.Offending.{Learns}
use Rattle.lu_run.proofs.finding.search.Given as goal

abbrev pub invariant-loop-attempt : goal.invariant-loop-attempt
invariant-loop-attempt l = record {
  learns : Learns l.fn.runs.component.now l.fn.runs.calls.now l.fn.table l.table;
  sound : AreSound l.fn.runs.component.now l.fn.runs.calls.now l.events l.fn.table l.table l.open.items;
}
