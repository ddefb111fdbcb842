use Rattle.lu_machine.proofs.Ended.{complete_no_move, complete_or_not, move_or_not, status_same}
use Rattle.lu_machine.proofs.Starting.{never_both, one_unsettled, settled_start, setups_alike, start_same, start_there}
use Rattle.lu_machine.proofs.StepLaws.{step_same, step_feasible, feasible_step}
use Rattle.lu_machine.proofs.laws.step_laws.Goals as goal

pub returns-clause-one_start : goal.returns-clause-one_start
returns-clause-one_start _ = start_same

pub returns-clause-starts : goal.returns-clause-starts
returns-clause-starts _ c matrix = (start_there c matrix, λ some. settled_start c matrix some.0 some.1)

pub returns-clause-never_both : goal.returns-clause-never_both
returns-clause-never_both _ = never_both

pub returns-clause-one_unsettled : goal.returns-clause-one_unsettled
returns-clause-one_unsettled _ = one_unsettled

pub returns-clause-setups_alike : goal.returns-clause-setups_alike
returns-clause-setups_alike _ = setups_alike

pub returns-clause-one_outcome : goal.returns-clause-one_outcome
returns-clause-one_outcome _ = step_same

pub returns-clause-feasible_only : goal.returns-clause-feasible_only
returns-clause-feasible_only _ = step_feasible

pub returns-clause-all_feasible : goal.returns-clause-all_feasible
returns-clause-all_feasible _ = feasible_step

pub returns-clause-complete_is_over : goal.returns-clause-complete_is_over
returns-clause-complete_is_over _ = complete_no_move

pub returns-clause-complete_or_not : goal.returns-clause-complete_or_not
returns-clause-complete_or_not _ = complete_or_not

pub returns-clause-move_or_not : goal.returns-clause-move_or_not
returns-clause-move_or_not _ = move_or_not

pub returns-clause-one_status : goal.returns-clause-one_status
returns-clause-one_status _ = status_same
