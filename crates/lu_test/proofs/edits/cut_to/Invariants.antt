use Rattle.std.proofs.Common.{◌≡◌, take}
use Rattle.lu_test.specs.Matrix.{first_calls}
use Rattle.lu_test.proofs.edits.cut_to.Given as goal

abbrev pub invariant-loop-t : goal.invariant-loop-t
invariant-loop-t l = l.threads.items ≡ take l.t (first_calls l.matrix.threads l.lengths)
