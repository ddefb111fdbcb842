use Rattle.std.proofs.Common.{◌∙◌, ap, arith}
use Rattle.lu_source_text.proofs.Entries.{fill_more}
use Rattle.lu_source_text.proofs.origins.fill.Goals as goal

pub loop-alloc-preserved : goal.loop-alloc-preserved
loop-alloc-preserved c =
    fill_more c.args.line c.args.len c.args.locals.now c.loop-alloc.row.items c.push.new.self.items _ (omega arith) c.in_ok-push.ensures.items (ap (λ locals. (c.args.line, locals)) c.in_ok-locals.ensures) ∙ c.loop-alloc.invariant
