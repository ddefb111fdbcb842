use Rattle.std.proofs.Common.{ℕ, [], ap, arith, take}
use Rattle.std.proofs.lemmas.Result.{IfOk-weaker}
use Rattle.lu_text.specs.Lines.{texts}
use Rattle.lu_lint.proofs.Moves.{both, ends, first_texts, goes_on}
use Rattle.lu_lint.proofs.schedule.with_words.Goals as goal

pub loop-word-preserved : goal.loop-word-preserved
loop-word-preserved over c = goes_on _ c.loop-word.word-index (record { ref_ptr = (0, 0); now = [] }) c.args.above _ _ _ (omega arith) c.in_ok-all.ensures c.loop-word.invariant

pub returns : goal.returns
returns over c =
    let each = ends (take c.min.result c.args.words.now) c.loop-word.word-index c.args.above _ _ (omega arith) c.loop-word.invariant in
    IfOk-weaker c.with_length.result _ _ (λ next is. both c.args.above _ _ _ _ (texts c.args.words.now) each (first_texts c.args.words.now _ (ap (λ (n : ℕ). take n c.args.words.now) c.min.ensures)) is) c.with_length.ensures
