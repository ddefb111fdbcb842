use Rattle.lu_source_text.proofs.Innermost.{blocks_more}
use Rattle.lu_source_text.proofs.blocks.push_block.Goals as goal

pub returns : goal.returns
returns c = blocks_more _ c.args.blocks.now.items c.args.block c.in_ok-push.ensures.items
