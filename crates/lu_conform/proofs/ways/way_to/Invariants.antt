use Rattle.std.proofs.Common.{◌<◌, List, ◌++◌, length}
use Rattle.lu_test.specs.declared.schedule.Move.{Move}
use Rattle.lu_conform.specs.Ways.{IsWayBack}
use Rattle.lu_conform.proofs.ways.way_to.Given as goal

abbrev pub invariant-loop-arrival : goal.invariant-loop-arrival
invariant-loop-arrival l = record {
  within : l.at < length l.stages.entries;
  onward : (back : List Move) → IsWayBack l.stages.entries l.at back → IsWayBack l.stages.entries l.place (l.moves.items ++ back);
}

abbrev pub decreases-loop-arrival : goal.decreases-loop-arrival
decreases-loop-arrival l = l.at
