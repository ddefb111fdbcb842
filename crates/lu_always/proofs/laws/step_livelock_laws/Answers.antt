use Rattle.lu_always.proofs.StepEndings.{lost_step_node_livelocks, step_nodes_never_livelock}
use Rattle.lu_always.proofs.laws.step_livelock_laws.Goals as goal

pub returns : goal.returns
returns _ = record {
  none = step_nodes_never_livelock;
  some = lost_step_node_livelocks;
}
