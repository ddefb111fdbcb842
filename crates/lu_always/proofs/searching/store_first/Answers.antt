use Rattle.lu_always.proofs.Keeping.{position_stands}
use Rattle.lu_always.proofs.searching.store_first.Goals as goal

pub store-requires : goal.store-requires
store-requires c = position_stands c.args.machine.now c.in_ok-here.here c.in_ok-here.ensures.here c.in_ok-here.ensures.stands
