use Rattle.std.proofs.Common.{arith}
use Rattle.lu_choices.proofs.Numbered.{counted_fits}
use Rattle.lu_choices.proofs.choices.count_choices.Goals as goal

pub overflow_mul-count : goal.overflow_mul-count
overflow_mul-count c =
    let fits = counted_fits c.args.bases.now c.loop-base.base-index c.loop-base.count c.from-count.result c.requires (omega arith) c.from-count.ensures c.loop-base.invariant in
    omega (arith, fits)
