use Rattle.std.proofs.Common.{◌≡◌, ◌-◌, false}
use Rattle.lu_witness.specs.Caches.{SameButEntries}
use Rattle.lu_witness.specs.Witnesses.{IsMember}
use Rattle.lu_tree.specs.Known.{AreKnownAfter, IsKid, counts_of}
use Rattle.lu_tree.specs.Walks.{IsReadyToWalk}
use Rattle.lu_tree.proofs.Walking.{HasEnded}
use Rattle.lu_tree.proofs.Added.{AreAdded}
use Rattle.lu_tree.proofs.walk.+walk_as.Given as goal

abbrev pub decreases-walk_as : goal.decreases-walk_as
decreases-walk_as g l = l.visit.now.left

abbrev pub invariant-loop-thread : goal.invariant-loop-thread
invariant-loop-thread g l = record {
  machine : l.node.machine ≡ l.fn.node.machine;
  history : l.node.trail.history ≡ l.fn.node.trail.history;
  tree : l.node.trail.tree ≡ l.fn.node.trail.tree;
  cache : SameButEntries l.fn.cache l.cache;
  base : g.W.Watch.base l.watch ≡ g.W.Watch.base l.fn.watch;
  running : g.W.Watch.is_stopped l.watch ≡ false;
  ready : IsReadyToWalk l.tally;
  ended : HasEnded l.fn.node.machine (record { thread = l.thread; pick = 0 }) l.is_ended;
  counted : AreAdded (IsMember (g.T.SerialTree.members l.fn.node.trail.tree)) l.fn.node.machine l.fn.node.trail.history l.visit.left (record { thread = l.thread; pick = 0 }) (counts_of l.known);
  kids : AreKnownAfter (IsMember (g.T.SerialTree.members l.fn.node.trail.tree)) l.fn.node.machine l.fn.node.trail.history (l.visit.left - 1) (IsKid l.known);
}

abbrev pub invariant-loop-pick : goal.invariant-loop-pick
invariant-loop-pick g l = record {
  machine : l.node.machine ≡ l.fn.node.machine;
  history : l.node.trail.history ≡ l.fn.node.trail.history;
  tree : l.node.trail.tree ≡ l.fn.node.trail.tree;
  cache : SameButEntries l.fn.cache l.cache;
  base : g.W.Watch.base l.watch ≡ g.W.Watch.base l.fn.watch;
  running : g.W.Watch.is_stopped l.watch ≡ false;
  ready : IsReadyToWalk l.tally;
  ended : HasEnded l.fn.node.machine (record { thread = l.thread; pick = l.pick }) l.is_ended;
  counted : AreAdded (IsMember (g.T.SerialTree.members l.fn.node.trail.tree)) l.fn.node.machine l.fn.node.trail.history l.visit.left (record { thread = l.thread; pick = l.pick }) (counts_of l.known);
  kids : AreKnownAfter (IsMember (g.T.SerialTree.members l.fn.node.trail.tree)) l.fn.node.machine l.fn.node.trail.history (l.visit.left - 1) (IsKid l.known);
}
