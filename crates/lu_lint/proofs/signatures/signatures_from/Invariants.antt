use Rattle.std.proofs.Common.{◌≡◌, ◌++◌, drop}
use Rattle.lu_lint.specs.Signatures.{signatures_from}
use Rattle.lu_lint.proofs.signatures.signatures_from.Given as goal

abbrev pub invariant-loop-before : goal.invariant-loop-before
invariant-loop-before l = l.signatures.items ++ signatures_from l.faulty (drop l.before l.ops) ≡ signatures_from l.faulty l.ops
