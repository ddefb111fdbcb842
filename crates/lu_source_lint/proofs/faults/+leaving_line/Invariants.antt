use Rattle.lu_source_lint.proofs.faults.+leaving_line.Given as goal

abbrev pub decreases-leaving_line : goal.decreases-leaving_line
decreases-leaving_line l = l.count
