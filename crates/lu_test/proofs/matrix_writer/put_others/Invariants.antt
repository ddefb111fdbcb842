use Rattle.std.proofs.Common.{◌≡◌, ◌++◌, take}
use Rattle.std.specs.Prelude.{string_bytes}
use Rattle.lu_test.specs.MatrixText.{others_text}
use Rattle.lu_test.proofs.matrix_writer.put_others.Given as goal

abbrev pub invariant-loop-call : goal.invariant-loop-call
invariant-loop-call l = string_bytes l.text ≡ string_bytes l.initial.text ++ others_text l.operations (take l.call-index l.calls)
