use Rattle.std.proofs.Common.{refl, arith, ◌+◌, length}
use Rattle.lu_text.proofs.Reading.{done_so, ends_untaken, goes_on_taken, taken, text_more, texts_end}
use Rattle.lu_test.specs.MatrixText.{matrix_grammar}
use Rattle.lu_test.proofs.Signatures.{few}
use Rattle.lu_test.proofs.SomeComponent.{of_this}
use Rattle.lu_test.proofs.Threads.{line_limits, line_fits, nothing_limits, nothing_fits, of_finished}
use Rattle.lu_test.proofs.matrix_text.read_lines.Goals as goal

pub loop-before-init : goal.loop-before-init
loop-before-init c = rw c.new.ensures.items (record { limits = nothing_limits; fits = nothing_fits c.args.component.now; read = refl })

pub line-requires : goal.line-requires
line-requires c = (few c.args.component.now c.args.signatures.now c.requires.sound c.requires.signatures, c.loop-before.invariant.limits.0.calls)

pub returns-in-Some-clause-exact : goal.returns-in-Some-clause-exact
returns-in-Some-clause-exact c =
    let step = text_more c.args.lines.now c.loop-before.before _ (omega arith) in
    let told = rw (c.requires.signatures, c.in-Some.is) at c.in_ok-kind.ensures in
    ends_untaken (matrix_grammar c.args.component.now) c.in-Some.kind (c.loop-before.before + 1) c.loop-before.draft c.line.new.self _ _ _ told (rw step at c.loop-before.invariant.read)

pub loop-before-preserved : goal.loop-before-preserved
loop-before-preserved c =
    let step = text_more c.args.lines.now c.loop-before.before _ (omega arith) in
    let told = rw (c.requires.signatures, c.in_default.is) at c.in_ok-kind.ensures in
    let read = taken (matrix_grammar c.args.component.now) c.loop-before.draft c.line.new.self _ told in
    record {
      limits = line_limits _ c.requires.sound _ c.loop-before.invariant.limits c.loop-before.invariant.fits _ _ read;
      fits = line_fits _ c.requires.sound _ c.loop-before.invariant.limits c.loop-before.invariant.fits _ _ read;
      read = goes_on_taken (matrix_grammar c.args.component.now) (c.loop-before.before + 1) c.loop-before.draft c.line.new.self _ _ _ told (rw step at c.loop-before.invariant.read);
    }

pub finish-requires-clause-of_some : goal.finish-requires-clause-of_some
finish-requires-clause-of_some c = of_this c.args.component.now _ c.requires.sound c.loop-before.invariant.fits

pub returns-in-Ok-clause-exact : goal.returns-in-Ok-clause-exact
returns-in-Ok-clause-exact c =
    let read = rw (texts_end c.args.lines.now c.loop-before.before (omega arith)) at c.loop-before.invariant.read in
    rw c.in-Ok.is at (done_so (matrix_grammar c.args.component.now) (c.loop-before.before + 1) (length c.args.lines.now + 1) c.loop-before.draft c.finish.result _ (omega arith) c.finish.ensures read)

pub returns-in-Ok-clause-of : goal.returns-in-Ok-clause-of
returns-in-Ok-clause-of c =
    of_finished c.args.component.now c.loop-before.draft c.finish.result c.in-Ok.matrix c.finish.ensures c.in-Ok.is c.loop-before.invariant.fits

pub returns-in-Err-clause-exact : goal.returns-in-Err-clause-exact
returns-in-Err-clause-exact c =
    let read = rw (texts_end c.args.lines.now c.loop-before.before (omega arith)) at c.loop-before.invariant.read in
    rw c.in-Err.is at (done_so (matrix_grammar c.args.component.now) (c.loop-before.before + 1) (length c.args.lines.now + 1) c.loop-before.draft c.finish.result _ (omega arith) c.finish.ensures read)
