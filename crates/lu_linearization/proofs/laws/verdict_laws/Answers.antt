use Rattle.lu_linearization.proofs.Monitored.{monitor_completes, monitor_sticks}
use Rattle.lu_linearization.proofs.laws.verdict_laws.Goals as goal

pub returns-clause-complete : goal.returns-clause-complete
returns-clause-complete g _ it = monitor_completes g.S.SerialSet.has (g.A.SerialReader.leads_to it)

pub returns-clause-stuck : goal.returns-clause-stuck
returns-clause-stuck g _ it = monitor_sticks g.S.SerialSet.has (g.A.SerialReader.leads_to it) (g.A.Automaton.next it) (g.A.SerialReader.call_of it)
