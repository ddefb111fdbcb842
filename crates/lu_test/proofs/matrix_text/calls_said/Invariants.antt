use Rattle.std.proofs.Common.{◌≡◌, take}
use Rattle.lu_test.specs.MatrixText.{calls_said}
use Rattle.lu_test.proofs.matrix_text.calls_said.Given as goal

abbrev pub invariant-loop-part : goal.invariant-loop-part
invariant-loop-part l = l.calls.items ≡ calls_said l.signatures (take l.part-index l.parts)
