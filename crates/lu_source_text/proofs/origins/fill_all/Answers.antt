use Rattle.std.proofs.Common.{arith, ap, length}
use Rattle.lu_source_text.proofs.Entries.{all_next}
use Rattle.lu_source_text.proofs.origins.fill_all.Goals as goal

pub returns-in-Some : goal.returns-in-Some
returns-in-Some c =
    all_next c.fill_at.result c.args.line c.len.result c.size_so_far-len.result c.deref-in-Some-2.result.now c.args.draft.now c.in-Some.begun c.deref-in-Some.result.now c.deref.result.now c.args.rows.now.items c.fill_closed.new.rows.items c.fill_at.new.rows.items
    c.in-Some.is c.deref-in-Some.ensures.value c.deref-in-Some-2.ensures.value c.deref.ensures.value (omega (arith, ap length c.deref.ensures.value, c.len.ensures, c.args.draft.now.operations.ok.0)) c.size_so_far-len.ensures c.in_ok-fill_closed.ensures.filled c.fill_at.ensures.filled
