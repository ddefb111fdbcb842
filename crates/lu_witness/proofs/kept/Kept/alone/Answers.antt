use Rattle.lu_witness.proofs.Keeping.{keep_well_formed}
use Rattle.lu_witness.proofs.kept.Kept.alone.Goals as goal

pub returns-clause-well_formed : goal.returns-clause-well_formed
returns-clause-well_formed c = keep_well_formed c.args.t c.args.history.now c.requires
