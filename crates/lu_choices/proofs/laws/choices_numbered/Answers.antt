use Rattle.lu_choices.proofs.Numbered.{before_less, choice_there, number_below, same_choice}
use Rattle.lu_choices.proofs.laws.choices_numbered.Goals as goal

pub returns : goal.returns
returns _ = record { below = number_below; each = choice_there; one = same_choice; ordered = before_less }
