use Rattle.std.proofs.Common.{◌≤◌, length, map, take}
use Rattle.lu_source.specs.Programs.{operation_of}
use Rattle.lu_source_text.specs.Origins.{AreFilled, closed_at}
use Rattle.lu_source_text.proofs.origins.fill_closed.Given as goal

abbrev pub invariant-loop-number : goal.invariant-loop-number
invariant-loop-number l = record {
  filled : AreFilled l.line (closed_at (map operation_of (take l.number l.closed))) l.fn.rows.items l.rows.items;
  there : l.number ≤ length l.rows.items;
}
