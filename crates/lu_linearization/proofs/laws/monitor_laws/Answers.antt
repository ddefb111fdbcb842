use Rattle.lu_linearization.proofs.Monitored.{monitor_calls, monitor_is_empty, monitor_returns, monitor_starts}
use Rattle.lu_linearization.proofs.laws.monitor_laws.Goals as goal

pub returns-clause-start : goal.returns-clause-start
returns-clause-start g _ it = monitor_starts (g.A.SerialReader.leads_to it)

pub returns-clause-calls : goal.returns-clause-calls
returns-clause-calls g _ it = monitor_calls (g.A.SerialReader.leads_to it) (g.A.Automaton.next it) (g.A.SerialReader.call_of it) (g.met.A.SerialReader.is_automaton it)

pub returns-clause-returns : goal.returns-clause-returns
returns-clause-returns g _ it = monitor_returns (g.A.SerialReader.leads_to it)

pub returns-clause-empty : goal.returns-clause-empty
returns-clause-empty g _ it = monitor_is_empty (g.A.SerialReader.leads_to it)
