use Rattle.std.proofs.Common.{◌∙◌, arith}
use Rattle.lu_lang.proofs.Understood.{spaced_all}
use Rattle.lu_lang.proofs.recovery.with_spaced_words.Goals as goal

pub returns : goal.returns
returns c = c.loop-word.invariant ∙ spaced_all c.args.text.items c.args.words.now c.loop-word.word-index (omega arith)
