use Rattle.lu_judge.specs.Paths.{history_of}
use Rattle.lu_judge.proofs.Lengths.{few_events}
use Rattle.lu_judge.proofs.path.Path.write.Goals as goal

pub write_at-requires-clause-few : goal.write_at-requires-clause-few
write_at-requires-clause-few c = few_events (history_of c.args.self.now) c.requires.well_formed
