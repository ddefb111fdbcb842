use Rattle.std.proofs.Common.{◌+◌, ◌∙◌, refl}
use Rattle.std.proofs.lemmas.Result.{IfOk-weaker}
use Rattle.lu_lang.proofs.Understood.{behind, is_line_with}
use Rattle.lu_lang.proofs.recovery.line_with.Goals as goal

pub returns : goal.returns
returns c =
    IfOk-weaker c.with_spaced_words-2.result _ _ (λ v h. h ∙ is_line_with c.args.words.now _ _ c.args.position c.args.other.now c.in_ok-text.text.items _ _ refl (behind c.args.words.now (c.args.position + 1)) (rw c.new.ensures.items at c.in_ok-text.ensures) c.in_ok-extend_from_slice.ensures.items c.in_ok-push.ensures.items) c.with_spaced_words-2.ensures
