use Rattle.std.proofs.Common.{length}
use Rattle.lu_source_text.proofs.origins.+size_so_far.Given as goal

abbrev pub decreases-size_so_far : goal.decreases-size_so_far
decreases-size_so_far l = length l.blocks.now
