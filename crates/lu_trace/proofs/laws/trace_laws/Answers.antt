use Rattle.lu_trace.proofs.Followed.{one_trace, trace_leads, trace_or_fault}
use Rattle.lu_trace.proofs.SetupRuns.{one_trace_from_setup}
use Rattle.lu_trace.proofs.laws.trace_laws.Goals as goal

pub returns : goal.returns
returns _ = record { leads = trace_leads; one_trace = one_trace; or_fault = trace_or_fault; one_from_setup = one_trace_from_setup }
