use Rattle.std.proofs.Common.{arith}
use Rattle.lu_source_text.proofs.Entries.{closed_next}
use Rattle.lu_source_text.proofs.origins.fill_closed.Goals as goal

pub loop-number-preserved : goal.loop-number-preserved
loop-number-preserved c = record {
  filled = closed_next c.args.line c.loop-number.number c.args.closed.now c.index-closed-number.result c.min-len.result _ _ _ c.loop-number-test.true c.index-closed-number.is (omega (arith, c.code_len.ensures, c.min-len.ensures)) c.loop-number.invariant.filled c.in_ok-fill_at.ensures.filled;
  there = omega (arith, c.in_ok-fill_at.ensures.there);
}
