use Rattle.lu_picture.proofs.Drawn.{IsDrawn}
use Rattle.lu_picture.proofs.drawing.write_worded_picture.Given as goal

abbrev pub invariant-loop-at : goal.invariant-loop-at
invariant-loop-at l = IsDrawn l.how l.initial.machine l.next-items l.at l.machine l.drawing
