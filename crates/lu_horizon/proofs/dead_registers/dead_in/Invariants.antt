use Rattle.lu_horizon.specs.Rounds.{AreLiveIn, AreWithin, dead_count}
use Rattle.lu_horizon.proofs.dead_registers.dead_in.Given as goal

abbrev pub invariant-loop : goal.invariant-loop
invariant-loop l = record {
  live : AreLiveIn l.code l.dead.items;
  within : AreWithin l.code l.dead.items;
}

abbrev pub decreases-loop : goal.decreases-loop
decreases-loop l = dead_count l.dead.items
