use Rattle.lu_run.specs.Finding.{Opens}
use Rattle.lu_run.specs.Offending.{Learns}
use Rattle.lu_run.proofs.finding.open_each_effect.Given as goal

abbrev pub invariant-loop-place : goal.invariant-loop-place
invariant-loop-place l = record {
  learns : Learns l.fn.runs.component.now l.fn.runs.calls.now l.fn.table l.table;
  opens : Opens l.fn.runs l.from l.fn.table l.fn.open l.table l.open;
}
