use Rattle.lu_test.specs.Matrix.{Matrix, total_calls}
use Rattle.lu_machine.specs.Starts.{CanRun}
use Rattle.lu_replay.specs.Reports.{IsReport}
use Rattle.lu_refine.specs.Removals.{IsFailing, ShrinksTo}
use Rattle.lu_refine.proofs.shrinking.shrink.Given as goal

abbrev pub invariant-loop-shrunk : goal.invariant-loop-shrunk
invariant-loop-shrunk l = record {
  of : CanRun l.component l.shrunk.0;
  report : IsReport l.component l.shrunk.0 l.bound l.serial l.shrunk.1;
  fails : IsFailing l.component l.bound l.serial l.shrunk.0;
  chain : (last : Matrix) → ShrinksTo (IsFailing l.component l.bound l.serial) l.shrunk.0 last → ShrinksTo (IsFailing l.component l.bound l.serial) l.matrix last;
}

abbrev pub decreases-loop-shrunk : goal.decreases-loop-shrunk
decreases-loop-shrunk l = total_calls l.shrunk.0
