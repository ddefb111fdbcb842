use Rattle.std.proofs.Common.{◌≡◌, ◌++◌}
use Rattle.std.specs.Prelude.{string_bytes}
use Rattle.lu_trace.specs.Setups.{array_lines}
use Rattle.lu_trace.proofs.setup.write_arrays.Given as goal

abbrev pub invariant-loop-array : goal.invariant-loop-array
invariant-loop-array l = string_bytes l.text ≡ string_bytes l.initial.text ++ array_lines l.machine l.array
