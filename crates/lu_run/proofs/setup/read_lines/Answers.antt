use Rattle.std.proofs.Common.{refl, arith, ◌+◌, length, Ok, sym, ap, ◌∙◌}
use Rattle.lu_text.proofs.Reading.{done_so, ends_untaken, goes_on_taken, taken, text_more, texts_end}
use Rattle.lu_test.proofs.Signatures.{few}
use Rattle.lu_test.proofs.Threads.{line_limits, line_fits, nothing_limits, nothing_fits}
use Rattle.lu_run.specs.Setups.{setup_grammar, setup_matrix}
use Rattle.lu_run.proofs.SetupLines.{setup_fits}
use Rattle.lu_run.proofs.setup.read_lines.Goals as goal

pub loop-before-init : goal.loop-before-init
loop-before-init c = rw c.new.ensures.items (record { limits = nothing_limits; fits = nothing_fits c.args.component.now; read = refl })

pub line-requires : goal.line-requires
line-requires c = (few c.args.component.now c.args.signatures.now c.requires.sound c.requires.signatures, c.loop-before.invariant.limits.0.calls)

pub returns-in-Some-clause-exact : goal.returns-in-Some-clause-exact
returns-in-Some-clause-exact c =
    let step = text_more c.args.lines.now c.loop-before.before _ (omega arith) in
    let told = rw (c.requires.signatures, c.in-Some.is) at c.in_ok-kind.ensures in
    ends_untaken (setup_grammar c.args.component.now) c.in-Some.kind (c.loop-before.before + 1) c.loop-before.draft c.line.new.self _ _ _ told (rw step at c.loop-before.invariant.read)

pub loop-before-preserved : goal.loop-before-preserved
loop-before-preserved c =
    let step = text_more c.args.lines.now c.loop-before.before _ (omega arith) in
    let told = rw (c.requires.signatures, c.in_default.is) at c.in_ok-kind.ensures in
    let read = taken (setup_grammar c.args.component.now) c.loop-before.draft c.line.new.self _ told in
    record {
      limits = line_limits _ c.requires.sound _ c.loop-before.invariant.limits c.loop-before.invariant.fits _ _ read;
      fits = line_fits _ c.requires.sound _ c.loop-before.invariant.limits c.loop-before.invariant.fits _ _ read;
      read = goes_on_taken (setup_grammar c.args.component.now) (c.loop-before.before + 1) c.loop-before.draft c.line.new.self _ _ _ told (rw step at c.loop-before.invariant.read);
    }

pub setup_matrix-requires-clause-fits : goal.setup_matrix-requires-clause-fits
setup_matrix-requires-clause-fits c = setup_fits c.args.component.now c.loop-before.draft c.loop-before.invariant.fits

pub returns-clause-exact : goal.returns-clause-exact
returns-clause-exact c =
    let read = rw (texts_end c.args.lines.now c.loop-before.before (omega arith)) at c.loop-before.invariant.read in
    done_so (setup_grammar c.args.component.now) (c.loop-before.before + 1) (length c.args.lines.now + 1) c.loop-before.draft (Ok (setup_matrix c.loop-before.draft)) _ (omega arith) refl read ∙ ap Ok (sym c.in_ok-setup_matrix.ensures)
