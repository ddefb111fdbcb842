use Rattle.lu_source_lint.proofs.Reported.{line_set}
use Rattle.lu_source_lint.proofs.faults.set_line.Goals as goal

pub returns-then-index-lines : goal.returns-then-index-lines
returns-then-index-lines c = line_set c.args.lines.now c.args.line c.saturating_sub-index.result c.args.text c.saturating_sub-index.ensures
