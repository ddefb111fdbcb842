use Rattle.std.proofs.Common.{arith}
use Rattle.lu_forever.proofs.UnrolledRows.{total_few}
use Rattle.lu_forever.proofs.unrolling.fit.Goals as goal

pub total_of-requires : goal.total_of-requires
total_of-requires c =
    let short = c.are_short.ensures.0 c.if-are_short.true in
    omega (arith, total_few c.args.rows.now short, c.requires)
