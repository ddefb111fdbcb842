use Rattle.std.proofs.Common.{refl}
use Rattle.lu_spec.proofs.Nexts.{of_nothing}
use Rattle.lu_spec.proofs.free.no_lines.Goals as goal

pub same-set : goal.same-set
same-set c = refl

pub returns-clause-empty : goal.returns-clause-empty
returns-clause-empty c = of_nothing c.new-set.result c.add_with_beginnings.new.set _ c.new-set.ensures refl c.in_ok-add_with_beginnings.ensures
