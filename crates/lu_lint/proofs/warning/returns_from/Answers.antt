use Rattle.std.proofs.Common.{ℕ, false, replicate, ap, ◌∙◌, rules}
use Rattle.lu_lint.proofs.Warned.{no_round, round_more}
use Rattle.lu_lint.proofs.warning.returns_from.Goals as goal

pub loop-round-init : goal.loop-round-init
loop-round-init c = no_round c.args.op.now _ (c.in_ok-row.ensures.items_if_clones_equal (λ _ e. e) ∙ ap (λ (n : ℕ). replicate n false) (search rules))

pub loop-round-preserved : goal.loop-round-preserved
loop-round-preserved c = round_more c.args.op.now c.loop-round._round c.loop-round.row.items _ c.loop-round.invariant (rw c.deref.ensures.value at c.in_ok-row-2.ensures)
