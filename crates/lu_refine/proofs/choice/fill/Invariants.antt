use Rattle.lu_refine.specs.Roles.{chosen_calls}
use Rattle.lu_refine.proofs.Filling.{IsFilledTo}
use Rattle.lu_refine.proofs.choice.fill.Given as goal

abbrev pub invariant-loop-thread : goal.invariant-loop-thread
invariant-loop-thread l = IsFilledTo l.roles.candidates.now l.roles.calls l.thread-index l.rest l.chosen_calls.items (chosen_calls l.roles.calls l.roles.candidates.now l.choice)
