use Rattle.std.proofs.Common.{◌≡◌}
use Rattle.lu_lint.specs.Warnings.{returns_within}
use Rattle.lu_lint.proofs.warning.returns_from.Given as goal

abbrev pub invariant-loop-round : goal.invariant-loop-round
invariant-loop-round l = l.row.items ≡ returns_within l.op l._round
