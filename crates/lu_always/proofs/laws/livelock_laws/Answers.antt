use Rattle.lu_always.proofs.Endings.{livelocks_never, lost_node_livelocks, nodes_never_livelock}
use Rattle.lu_always.proofs.laws.livelock_laws.Goals as goal

pub returns : goal.returns
returns _ = record {
  none = nodes_never_livelock;
  some = lost_node_livelocks;
  never = livelocks_never;
}
