use Rattle.std.proofs.Common.{◌≡◌, ◌++◌}
use Rattle.std.specs.Prelude.{string_bytes}
use Rattle.lu_trace.specs.Setups.{values_text}
use Rattle.lu_trace.proofs.setup.write_values.Given as goal

abbrev pub invariant-loop-index : goal.invariant-loop-index
invariant-loop-index l = string_bytes l.text ≡ string_bytes l.initial.text ++ values_text l.machine l.array l.index
