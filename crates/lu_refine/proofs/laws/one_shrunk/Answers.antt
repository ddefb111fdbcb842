use Rattle.lu_refine.specs.Removals.{IsFailing}
use Rattle.lu_refine.proofs.Chained.{one_end}
use Rattle.lu_refine.proofs.laws.one_shrunk.Goals as goal

pub returns : goal.returns
returns _ = λ c matrix a b bound serial x y. one_end (IsFailing c bound serial) matrix a b x.0 y.0 x.1 y.1
