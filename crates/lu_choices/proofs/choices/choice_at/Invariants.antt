use Rattle.lu_choices.proofs.Numbered.{IsPart}
use Rattle.lu_choices.proofs.choices.choice_at.Given as goal

abbrev pub invariant-loop-base : goal.invariant-loop-base
invariant-loop-base l = IsPart l.bases l.base-index l.round l.rest l.number l.choice.items
