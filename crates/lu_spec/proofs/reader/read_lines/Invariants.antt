use Rattle.std.proofs.Common.{◌+◌, ◌≤◌, List, length}
use Rattle.lu_history.specs.declared.serial.SerialOp.{SerialOp}
use Rattle.lu_spec.proofs.LinesRead.{AreReadTo}
use Rattle.lu_spec.proofs.reader.read_lines.Given as goal

abbrev pub invariant-loop-rest : goal.invariant-loop-rest
invariant-loop-rest l = record {
  short : l.number + length l.rest ≤ length l.text + 1;
  so_far : (listed : List (List SerialOp)) × AreReadTo l.matrix l.text listed l.draft.set l.draft.last.items l.rest l.number;
}

abbrev pub decreases-loop-rest : goal.decreases-loop-rest
decreases-loop-rest l = length l.rest
