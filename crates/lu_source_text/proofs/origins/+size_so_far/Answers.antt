use Rattle.std.proofs.Common.{arith}
use Rattle.lu_source_text.proofs.Entries.{size_first}
use Rattle.lu_source_text.proofs.origins.+size_so_far.Goals as goal

pub returns-in-len1-up : goal.returns-in-len1-up
returns-in-len1-up t c =
    omega (arith, c.size_so_far.ensures, size_first c.args.blocks.now c.outer-item.result c.in-len1-up.len_at_least c.outer-item.is)
