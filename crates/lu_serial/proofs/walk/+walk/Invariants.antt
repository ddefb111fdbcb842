use Rattle.std.proofs.Common.{◌≡◌, ◌++◌, [], ◌∷◌}
use Rattle.lu_machine.specs.States.{State}
use Rattle.lu_machine.specs.Order.{IsSmaller}
use Rattle.lu_serial.specs.Walks.{IsReadyState, Shows, moves_left}
use Rattle.lu_serial.proofs.walk.+walk.Given as goal

abbrev pub decreases-walk : goal.decreases-walk
decreases-walk g l = moves_left l.bound l.state.now.node.machine l.current

abbrev pub invariant-loop-thread : goal.invariant-loop-thread
invariant-loop-thread g l = record {
  same : l.state.path.items ≡ l.fn.state.path.items;
  machine : l.state.node.machine ≡ l.fn.state.node.machine;
  entries : l.state.node.entries.items ≡ l.fn.state.node.entries.items;
  shows : (start : State) (first : _) → IsReadyState start l.bound l.fn.state l.current g.H.HistoryVisitor.was_shown first → Shows start l.bound (λ v. IsSmaller v (l.fn.state.path.items ++ record { thread = l.thread; pick = 0 } ∷ [])) (g.H.HistoryVisitor.was_shown l.state.visitor first);
}

abbrev pub invariant-loop-pick : goal.invariant-loop-pick
invariant-loop-pick g l = record {
  same : l.state.path.items ≡ l.fn.state.path.items;
  machine : l.state.node.machine ≡ l.fn.state.node.machine;
  entries : l.state.node.entries.items ≡ l.fn.state.node.entries.items;
  shows : (start : State) (first : _) → IsReadyState start l.bound l.fn.state l.current g.H.HistoryVisitor.was_shown first → Shows start l.bound (λ v. IsSmaller v (l.fn.state.path.items ++ record { thread = l.thread; pick = l.pick } ∷ [])) (g.H.HistoryVisitor.was_shown l.state.visitor first);
}
