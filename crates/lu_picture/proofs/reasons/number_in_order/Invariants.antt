use Rattle.std.proofs.Common.{◌≡◌}
use Rattle.lu_picture.specs.Reasons as spec
use Rattle.lu_picture.proofs.reasons.number_in_order.Given as goal

abbrev pub invariant-loop-i : goal.invariant-loop-i
invariant-loop-i l = l.found ≡ spec.number_in_order l.order l.t l.k l.i
