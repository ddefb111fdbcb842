use Rattle.std.proofs.Common.{◌∙◌, sym, arith}
use Rattle.std.specs.Prelude.{vec_len}
use Rattle.lu_lang.proofs.Behind.{is_next, is_passed}
use Rattle.lu_lang.proofs.after_fault.next_words.Goals as goal

pub returns-then-not-is_empty : goal.returns-then-not-is_empty
returns-then-not-is_empty c =
    is_next c.in_ok-words.words.items c.args.lines.now c.loop-line.line-index (vec_len c.in_ok-words.words) _ _ (omega arith) c.in_ok-words.ensures c.in_ok-words.words.ok.0 (sym c.is_empty.ensures ∙ c.if-not-is_empty.true) c.loop-line.invariant

pub loop-line-preserved : goal.loop-line-preserved
loop-line-preserved c =
    is_passed c.in_ok-words.words.items c.args.lines.now c.loop-line.line-index (vec_len c.in_ok-words.words) _ _ (omega arith) c.in_ok-words.ensures c.in_ok-words.words.ok.0 (sym c.is_empty.ensures ∙ c.if-not-is_empty.false) c.loop-line.invariant
