use Rattle.std.proofs.Common.{arith}
use Rattle.lu_lang.specs.ComponentText.{code_line}
use Rattle.lu_lang.proofs.Lines.{line_on}
use Rattle.lu_lang.proofs.writing.write_code.Goals as goal

pub loop-place-preserved : goal.loop-place-preserved
loop-place-preserved c = line_on (code_line c.args.component.now c.args.code.now) c.args.code.now c.loop-place.place _ _ _ _ (omega arith) c.loop-place.invariant c.in_ok-write_line.ensures
