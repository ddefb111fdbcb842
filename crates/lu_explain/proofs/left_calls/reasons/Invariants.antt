use Rattle.std.proofs.Common.{◌≡◌, ℕ, ◌<◌, None, get_or, length}
use Rattle.lu_witness.specs.Witnesses.{IsMember}
use Rattle.lu_explain.specs.Search.{TellsStanding}
use Rattle.lu_explain.proofs.left_calls.reasons.Given as goal

abbrev pub invariant-loop-t : goal.invariant-loop-t
invariant-loop-t g l = record {
  size : length l.left ≡ 8;
  each : (t : ℕ) → t < l.t → TellsStanding (IsMember (g.T.SerialTree.below l.tree l.place)) l.taken l.history t (get_or l.left t None);
}
