use Rattle.std.specs.Prelude.{string_bytes}
use Rattle.lu_trace.proofs.Followed.{IsTraced}
use Rattle.lu_trace.proofs.tracing.write_worded_trace.Given as goal

abbrev pub invariant-loop-number : goal.invariant-loop-number
invariant-loop-number l = IsTraced l.detail l.how l.initial.machine l.next-items l.number l.machine (string_bytes l.lines)
