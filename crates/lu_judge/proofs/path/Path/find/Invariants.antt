use Rattle.std.proofs.Common.{◌≢◌}
use Rattle.lu_judge.specs.Paths.{lines, IsAfter}
use Rattle.lu_judge.proofs.path.Path.find.Given as goal

abbrev pub invariant-loop-at : goal.invariant-loop-at
invariant-loop-at l = l.at ≢ 0 → IsAfter (lines l.self.beginnings.items) l.self.number l.at

abbrev pub decreases-loop-at : goal.decreases-loop-at
decreases-loop-at l = l.at
