use Rattle.lu_lint.proofs.ReadingOn.{ends_held}
use Rattle.lu_lint.proofs.component.read_end.Goals as goal

pub returns : goal.returns
returns over c = ends_held c.args.reading c.args.end _ _ c.read_as-component.result c.in_ok-all.ensures c.read_as-component.ensures c.in_ok-all-2.ensures
