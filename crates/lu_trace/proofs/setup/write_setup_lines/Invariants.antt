use Rattle.std.specs.Prelude.{string_bytes}
use Rattle.lu_trace.specs.Setups.{SetupLines}
use Rattle.lu_trace.specs.Traces.{AddsLines}
use Rattle.lu_trace.proofs.setup.write_setup_lines.Given as goal

abbrev pub invariant-loop-line : goal.invariant-loop-line
invariant-loop-line l = AddsLines (SetupLines l.detail l.how l._line l.initial.machine l.machine) (string_bytes l.initial.text) (string_bytes l.text)
