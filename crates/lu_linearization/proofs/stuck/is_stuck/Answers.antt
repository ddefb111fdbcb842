use Rattle.lu_linearization.proofs.Monitored.{stuck_none, stuck_some}
use Rattle.lu_linearization.proofs.stuck.is_stuck.Goals as goal

pub returns-in-None : goal.returns-in-None
returns-in-None g c = stuck_none (g.A.Automaton.next c.args.automaton.now) c.args.call c.args.state c.in-None.ensures

pub returns-in-Some : goal.returns-in-Some
returns-in-Some g c = stuck_some (g.A.Automaton.next c.args.automaton.now) c.args.call c.args.state c.in-Some.field-0 c.in-Some.ensures
