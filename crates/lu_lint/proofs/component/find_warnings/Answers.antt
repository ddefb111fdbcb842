use Rattle.std.proofs.Common.{refl, rules}
use Rattle.lu_lint.proofs.component.find_warnings.Goals as goal

pub returns : goal.returns
returns over c = record { found = search rules; others = refl }
