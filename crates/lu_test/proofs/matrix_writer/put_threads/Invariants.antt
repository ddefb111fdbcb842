use Rattle.std.proofs.Common.{◌≡◌, ◌++◌, take}
use Rattle.std.specs.Prelude.{string_bytes}
use Rattle.std.specs.List.{flat_map}
use Rattle.lu_test.specs.MatrixText.{thread_text}
use Rattle.lu_test.proofs.matrix_writer.put_threads.Given as goal

abbrev pub invariant-loop-calls : goal.invariant-loop-calls
invariant-loop-calls l = string_bytes l.text ≡ string_bytes l.initial.text ++ flat_map (thread_text l.operations) (take l.calls-index l.threads)
