use Rattle.lu_judge.proofs.path.Path.+write_at.Given as goal

abbrev pub decreases-write_at : goal.decreases-write_at
decreases-write_at l = l.number
