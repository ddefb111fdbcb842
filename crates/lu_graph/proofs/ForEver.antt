-- From a list of states that no move leaves, and of which none has ended, no schedule ends.
use Rattle.std.proofs.Common.{List, [], ◌∷◌, sym, subst}
use Rattle.lu_test.specs.declared.schedule.Move.{Move}
use Rattle.lu_machine.specs.declared.event.Event.{Event}
use Rattle.lu_machine.specs.Runs.{Leads}
use Rattle.lu_machine.specs.States.{State}
use Rattle.lu_graph.specs.Hopeless.{ForEverIsHopeless, GoOnForEver}
use Rattle.lu_graph.specs.Nodes.{IsAmong}

stays : (states : List State) → GoOnForEver states → (s : State) → IsAmong states s → (u : List Move) (end : State) (h : List Event) → Leads s u end h → IsAmong states end
stays states on s is [] end h leads = subst (IsAmong states) (sym leads.0) is
stays states on s is (m ∷ u) end h leads = stays states on leads.0 (on.closed s m leads.0 leads.1 is leads.3) u end leads.2 leads.4

pub for_ever_is_hopeless : ForEverIsHopeless
for_ever_is_hopeless states s on is u r = on.never r.end (stays states on s is u r.end r.history r.leads) r.holds
