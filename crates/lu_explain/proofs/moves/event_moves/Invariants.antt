use Rattle.std.proofs.Common.{take}
use Rattle.lu_machine.specs.declared.event.Event.{Event}
use Rattle.lu_machine.specs.Runs.{Leads}
use Rattle.std.proofs.Common.{List}
use Rattle.lu_explain.specs.EventMoves.{LeadsNumbered}
use Rattle.lu_explain.proofs.moves.event_moves.Given as goal

abbrev pub invariant-loop-number : goal.invariant-loop-number
invariant-loop-number l = record {
  numbered : LeadsNumbered l.initial.machine 0 (take l.number l.next-items) l.machine l.numbers.items;
  leads : (h : List Event) × Leads l.initial.machine (take l.number l.next-items) l.machine h;
}
