use Rattle.std.proofs.Common.{◌<◌, List, ◌++◌, length}
use Rattle.lu_always.specs.declared.stored.Arrival.{Arrival}
use Rattle.lu_always.specs.Ways.{AreBack}
use Rattle.lu_always.proofs.ways.arrivals_back.Given as goal

abbrev pub invariant-loop-arrival : goal.invariant-loop-arrival
invariant-loop-arrival l = record {
  within : l.at < length l.fn.all;
  onward : (before : List Arrival) → AreBack l.fn.all l.at before → AreBack l.fn.all l.fn.index (l.back.items ++ before);
}

abbrev pub decreases-loop-arrival : goal.decreases-loop-arrival
decreases-loop-arrival l = l.at
