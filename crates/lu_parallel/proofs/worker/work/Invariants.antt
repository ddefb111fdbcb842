use Rattle.std.proofs.Common.{◌≡◌, ◌-◌, []}
use Rattle.lu_machine.specs.States.{State}
use Rattle.lu_machine.specs.Starts.{IsStart}
use Rattle.lu_witness.specs.Witnesses.{IsMember}
use Rattle.lu_tree.specs.Searchers.{tree_of}
use Rattle.lu_parallel.specs.Works.{IsSearcherFor, IsTally}
use Rattle.lu_parallel.proofs.worker.work.Given as goal

abbrev pub invariant-loop-piece : goal.invariant-loop-piece
invariant-loop-piece g l = record {
  tree : l.cache.tree ≡ l.tree;
  over : tree_of l.searcher ≡ l.tree;
  serves : IsSearcherFor l.job l.searcher;
  board : l.seat.board ≡ l.board.board;
  held : l.seat.view.held ≡ [];
  holds : (s : State) → IsStart l.component l.matrix s → IsTally (IsMember (g.T.SerialTree.members l.tree)) s l.bound l.pieces l.seat.view l.worker.counts l.worker.found.items;
}

abbrev pub decreases-loop-piece : goal.decreases-loop-piece
decreases-loop-piece g l = l.seat.view.pieces - l.seat.view.past
