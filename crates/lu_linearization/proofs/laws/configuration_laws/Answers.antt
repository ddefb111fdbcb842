use Rattle.lu_linearization.proofs.Configured.{call_law, complete_is_configured, monitor_law, nothing_is_configured, pending_goes_on, put_law, return_is_configured, stuck_is_configured}
use Rattle.lu_linearization.proofs.laws.configuration_laws.Goals as goal

pub returns-clause-initial : goal.returns-clause-initial
returns-clause-initial g _ = nothing_is_configured g.A.SerialAutomaton.leads_to

pub returns-clause-effect : goal.returns-clause-effect
returns-clause-effect g _ = put_law g.A.SerialAutomaton.leads_to g.A.SerialAutomaton.next g.A.SerialAutomaton.call_of

pub returns-clause-calls : goal.returns-clause-calls
returns-clause-calls g _ = call_law g.A.SerialAutomaton.leads_to g.A.SerialAutomaton.next g.A.SerialAutomaton.call_of

pub returns-clause-returns : goal.returns-clause-returns
returns-clause-returns g _ = return_is_configured g.A.SerialAutomaton.leads_to

pub returns-clause-pending : goal.returns-clause-pending
returns-clause-pending g _ = pending_goes_on g.A.SerialAutomaton.call_of

pub returns-clause-suffice : goal.returns-clause-suffice
returns-clause-suffice g _ = monitor_law g.A.SerialAutomaton.leads_to g.A.SerialAutomaton.next g.A.SerialAutomaton.call_of

pub returns-clause-complete : goal.returns-clause-complete
returns-clause-complete g _ = complete_is_configured g.A.SerialAutomaton.is_history g.A.SerialAutomaton.leads_to

pub returns-clause-stuck : goal.returns-clause-stuck
returns-clause-stuck g _ = stuck_is_configured g.A.SerialAutomaton.is_history g.A.SerialAutomaton.leads_to g.A.SerialAutomaton.is_stuck g.A.SerialAutomaton.call_of
