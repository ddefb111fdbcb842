use Rattle.std.proofs.Common.{refl, arith, ◌+◌, length}
use Rattle.lu_text.proofs.Reading.{done_so, ends_untaken, goes_on_taken, taken, text_more, texts_end}
use Rattle.lu_lang.specs.Grammar.{component_grammar}
use Rattle.lu_lang.proofs.Drafts.{line_keeps, nothing_draft, told_without, without_draft}
use Rattle.lu_lang.proofs.reading.read_lines.Goals as goal

pub loop-before-init : goal.loop-before-init
loop-before-init c = rw c.new-draft.ensures (record { sound = nothing_draft; read = refl })

pub returns-in-Some : goal.returns-in-Some
returns-in-Some c =
    let step = text_more c.args.lines.now c.loop-before.before _ (omega arith) in
    let told = rw c.in-Some.is at c.in_ok-kind.ensures in
    ends_untaken component_grammar c.in-Some.kind (c.loop-before.before + 1) c.loop-before.draft c.line.new.self _ _ _ told (rw step at c.loop-before.invariant.read)

pub loop-before-preserved : goal.loop-before-preserved
loop-before-preserved c =
    let step = text_more c.args.lines.now c.loop-before.before _ (omega arith) in
    let told = rw c.in_default.is at c.in_ok-kind.ensures in
    record {
      sound = line_keeps _ c.loop-before.invariant.sound _ _ (taken component_grammar c.loop-before.draft c.line.new.self _ told);
      read = goes_on_taken component_grammar (c.loop-before.before + 1) c.loop-before.draft c.line.new.self _ _ _ told (rw step at c.loop-before.invariant.read);
    }

pub finish-requires : goal.finish-requires
finish-requires c = c.loop-before.invariant.sound

pub returns-in-Ok : goal.returns-in-Ok
returns-in-Ok c =
    let read = rw (texts_end c.args.lines.now c.loop-before.before (omega arith)) at c.loop-before.invariant.read in
    rw c.in-Ok.is at (done_so component_grammar (c.loop-before.before + 1) (length c.args.lines.now + 1) c.loop-before.draft (without_draft c.finish.result) _ (omega arith) (told_without _ _ _ c.finish.ensures) read)

pub returns : goal.returns
returns c =
    let read = rw (texts_end c.args.lines.now c.loop-before.before (omega arith)) at c.loop-before.invariant.read in
    rw c.in-Err.is at (done_so component_grammar (c.loop-before.before + 1) (length c.args.lines.now + 1) c.loop-before.draft (without_draft c.finish.result) _ (omega arith) (told_without _ _ _ c.finish.ensures) read)
