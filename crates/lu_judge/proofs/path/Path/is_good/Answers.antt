use Rattle.lu_judge.proofs.Moving.{found_at}
use Rattle.lu_judge.proofs.path.Path.is_good.Goals as goal

pub returns : goal.returns
returns c = λ members right good. right c.args.self.now.number c.index.result.now (found_at c.args.self.now.beginnings.items c.args.self.now.number c.index.result.now c.requires.number c.index.ensures) good
