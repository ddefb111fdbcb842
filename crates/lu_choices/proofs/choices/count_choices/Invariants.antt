use Rattle.lu_choices.proofs.Numbered.{IsCounted}
use Rattle.lu_choices.proofs.choices.count_choices.Given as goal

abbrev pub invariant-loop-base : goal.invariant-loop-base
invariant-loop-base l = IsCounted l.bases l.base-index l.count
