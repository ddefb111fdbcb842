use Rattle.std.proofs.Common.{◌<◌, ◌≤◌, ◌++◌, ◌∷◌, ◌∙◌, [], length, sym, arith}
use Rattle.std.proofs.lemmas.List.{length-append}
use Rattle.std.proofs.lemmas.Result.{err_from_is_err_and}
use Rattle.lu_text.specs.Lines.{texts}
use Rattle.lu_test.specs.ScheduleText.{moves_of}
use Rattle.lu_text.proofs.Reading.{text_more, texts_end}
use Rattle.lu_test.proofs.RoundTrip.{made}
use Rattle.lu_test.proofs.Loop.{goes_on, ends, is_full, is_done, told}
use Rattle.lu_test.proofs.schedule_text.moves_of.Goals as goal

pub returns-in_err-next : goal.returns-in_err-next
returns-in_err-next c =
    let p = err_from_is_err_and c.from_residual.result c.from_residual.ensures.1 in
    let words = c.args.words.now in
    let i = c.loop-word.word-index in
    let e = sym c.move_in.ensures ∙ c.in_err-next.was in
    let step = text_more words i _ (omega arith) in
    rw (p.1, p.2) (told c.in_err-next.field-0.0 (moves_of 0 (texts words)) (ends c.loop-word.moves.items _ _ c.in_err-next.field-0.0 _ _ e (rw step at c.loop-word.invariant.told)))

pub returns-then-len-eq-MOST_LISTED_MOVES : goal.returns-then-len-eq-MOST_LISTED_MOVES
returns-then-len-eq-MOST_LISTED_MOVES c =
    let words = c.args.words.now in
    let i = c.loop-word.word-index in
    let step = text_more words i _ (omega arith) in
    is_full c.loop-word.moves.items _ _ _ _ _ (sym c.in_ok-next.ensures) (omega arith) (rw step at c.loop-word.invariant.told)

pub loop-word-preserved : goal.loop-word-preserved
loop-word-preserved c =
    let words = c.args.words.now in
    let i = c.loop-word.word-index in
    let front = c.loop-word.moves.items in
    let few : length front < 4112 = omega (arith, c.loop-word.moves.ok.0) in
    let more : length (front ++ c.in_ok-next.next ∷ []) ≤ 4112 = simp length-append (omega arith) in
    let step = text_more words i _ (omega arith) in
    rw c.in_ok-push.ensures.items (record {
      few = more;
      told = goes_on front _ _ _ _ few (sym c.in_ok-next.ensures) (rw step at c.loop-word.invariant.told);
    })

pub returns : goal.returns
returns c =
    let words = c.args.words.now in
    let i = c.loop-word.word-index in
    rw c.new.ensures (is_done c.loop-word.moves.items _ _ (rw (texts_end words i (omega arith)) at c.loop-word.invariant.told))

pub new-requires : goal.new-requires
new-requires c =
    let words = c.args.words.now in
    let i = c.loop-word.word-index in
    made _ _ (is_done c.loop-word.moves.items _ _ (rw (texts_end words i (omega arith)) at c.loop-word.invariant.told))
