use Rattle.std.proofs.Common.{◌+◌, ◌≤◌, length}
use Rattle.lu_spec.proofs.FaultLines.{AreJudgedTo}
use Rattle.lu_spec.proofs.faults.with_faults.Given as goal

abbrev pub invariant-loop-rest : goal.invariant-loop-rest
invariant-loop-rest l = record {
  short : l.number + length l.rest ≤ length l.text + 1;
  so_far : AreJudgedTo l.matrix l.text l.draft l.rest l.number l.initial.faults.items l.faults.items;
}

abbrev pub decreases-loop-rest : goal.decreases-loop-rest
decreases-loop-rest l = length l.rest
