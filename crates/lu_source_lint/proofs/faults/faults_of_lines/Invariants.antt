use Rattle.std.proofs.Common.{◌≡◌, ◌++◌, ◌-◌}
use Rattle.lu_source_lint.specs.Faults.{bytes_of, faults_of_lines, first_fault}
use Rattle.lu_source_lint.proofs.faults.faults_of_lines.Given as goal

abbrev pub invariant-loop-round : goal.invariant-loop-round
invariant-loop-round l = (l.first ≡ first_fault (bytes_of l.lines.items)) × (l.faults.items ++ faults_of_lines (20 - l._round) (bytes_of l.lines.items) ≡ faults_of_lines 20 (bytes_of l.fn.lines.items))
