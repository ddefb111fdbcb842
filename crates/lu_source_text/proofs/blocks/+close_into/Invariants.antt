use Rattle.std.proofs.Common.{length}
use Rattle.lu_source_text.proofs.blocks.+close_into.Given as goal

abbrev pub decreases-close_into : goal.decreases-close_into
decreases-close_into l = length l.blocks.now.items
