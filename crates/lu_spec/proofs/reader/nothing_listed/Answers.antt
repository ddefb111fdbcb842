use Rattle.std.proofs.Common.{refl}
use Rattle.lu_spec.proofs.Nexts.{none_listed}
use Rattle.lu_spec.proofs.reader.nothing_listed.Goals as goal

pub same-set : goal.same-set
same-set c = refl

pub returns : goal.returns
returns c = λ matrix. none_listed matrix c.new-set.result c.add_beginnings.new.set _ c.new.result.items c.new-set.ensures refl c.new.ensures.items c.in_ok-add_beginnings.ensures
