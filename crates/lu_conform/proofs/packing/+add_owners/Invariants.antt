use Rattle.std.proofs.Common.{length}
use Rattle.lu_conform.proofs.packing.+add_owners.Given as goal

abbrev pub decreases-add_owners : goal.decreases-add_owners
decreases-add_owners l = length l.owners.now
