use Rattle.std.proofs.Common.{arith}
use Rattle.lu_source_text.proofs.Entries.{filled_here}
use Rattle.lu_source_text.proofs.origins.fill_at.Goals as goal

pub returns-then-number-len-clause-filled : goal.returns-then-number-len-clause-filled
returns-then-number-len-clause-filled c =
    filled_here c.fill.result c.args.line c.args.number (c.args.len, c.args.locals.now) c.args.rows.now.items c.index_mut.result.now c.fill.new.row (omega arith) c.index_mut.ensures.value c.fill.ensures
