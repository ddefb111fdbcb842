use Rattle.std.proofs.Common.{◌≡◌, take}
use Rattle.lu_picture.specs.Pictures.{events}
use Rattle.lu_picture.proofs.drawing.history_of.Given as goal

abbrev pub invariant-loop-mark : goal.invariant-loop-mark
invariant-loop-mark l = l.history ≡ take l.mark-index (events l.marks)
