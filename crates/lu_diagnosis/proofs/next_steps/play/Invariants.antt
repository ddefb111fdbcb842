use Rattle.lu_diagnosis.proofs.Stepping.{LeadsHere}
use Rattle.lu_diagnosis.proofs.next_steps.play.Given as goal

abbrev pub invariant-loop-number : goal.invariant-loop-number
invariant-loop-number l = LeadsHere l.initial.machine l.next-items l.number l.machine
