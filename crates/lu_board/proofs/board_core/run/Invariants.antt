use Rattle.std.proofs.Common.{◌≡◌, true, take, length}
use Rattle.lu_board.specs.Core.{start, after_events, all_legal, CoreInvariant}
use Rattle.lu_board.proofs.board_core.run.Given as goal

abbrev pub invariant-loop-index : goal.invariant-loop-index
invariant-loop-index l = record {
  kept : CoreInvariant l.state;
  size : (l.state.pieces ≡ l.pieces) × (length l.state.views ≡ l.workers);
  legal : all_legal (take l.index l.events) (start l.pieces l.workers l.bad) ≡ true;
  state : l.state ≡ after_events (take l.index l.events) (start l.pieces l.workers l.bad);
}
