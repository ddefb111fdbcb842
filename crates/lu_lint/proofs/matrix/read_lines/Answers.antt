use Rattle.std.proofs.Common.{◌+◌, length, refl, arith}
use Rattle.lu_text.proofs.Reading.{text_more, texts_end}
use Rattle.lu_test.specs.MatrixText.{grammar_by}
use Rattle.lu_test.proofs.Threads.{nothing_room}
use Rattle.lu_lint.specs.declared.remark.Position.{Position}
use Rattle.lu_lint.proofs.MatrixSteps.{as_read, fits_kept, goes_on, is_done, nothing_by, room_kept}
use Rattle.lu_lint.proofs.WhileSound.{matrix_done, matrix_on}
use Rattle.lu_lint.proofs.matrix.read_lines.Goals as goal

pub loop-before-init : goal.loop-before-init
loop-before-init over c = rw (c.new.ensures.items, c.new-seen.ensures.items) (record { room = nothing_room; fits = nothing_by c.args.signatures.now; said = refl; read = refl })

pub read_draft-requires : goal.read_draft-requires
read_draft-requires over c = (c.requires, c.loop-before.invariant.room)

pub loop-before-preserved : goal.loop-before-preserved
loop-before-preserved over c =
    let all = c.args.signatures.now in
    let place : Position = record { above = c.args.above; line = c.loop-before.before + 1; seen = c.loop-before.seen } in
    let step = text_more c.args.lines.now c.loop-before.before _ (omega arith) in
    let (d1, went, left, said) = as_read all place _ _ _ _ _ _ c.in_ok-next.ensures in
    record {
      room = room_kept all _ d1 _ _ _ c.loop-before.invariant.room went left;
      fits = fits_kept all _ d1 _ _ _ c.loop-before.invariant.fits went left;
      said = rw (c.in_ok-seen.ensures, c.deref.ensures.value, c.in_ok-words.ensures) (goes_on all place _ d1 _ _ _ _ _ _ _ went left said (rw step at c.loop-before.invariant.said));
      read = matrix_on all c.loop-before.sound c.is_none-sound.result _ _ d1 _ _ _ _ _ c.is_none-sound.ensures went left (rw step at c.loop-before.invariant.read);
    }

pub returns-clause-said : goal.returns-clause-said
returns-clause-said over c =
    let all = c.args.signatures.now in
    let place : Position = record { above = c.args.above; line = length c.args.lines.now + 1; seen = c.loop-before.seen } in
    let past = texts_end c.args.lines.now c.loop-before.before (omega arith) in (
      is_done all place _ _ _ _ _ (omega arith) c.in_ok-all.ensures (rw past at c.loop-before.invariant.said),
      matrix_done (grammar_by all) c.loop-before.sound _ _ _ refl (rw past at c.loop-before.invariant.read),
    )
