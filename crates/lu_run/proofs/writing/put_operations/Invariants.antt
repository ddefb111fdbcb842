use Rattle.std.proofs.Common.{◌≡◌, ◌++◌, take}
use Rattle.std.specs.Prelude.{string_bytes}
use Rattle.lu_run.specs.RunWriting.{operations_text}
use Rattle.lu_run.proofs.writing.put_operations.Given as goal

abbrev pub invariant-loop-operation : goal.invariant-loop-operation
invariant-loop-operation l = string_bytes l.text ≡ string_bytes l.initial.text ++ operations_text l.operations l.calls (take l.operation-index l.order)
