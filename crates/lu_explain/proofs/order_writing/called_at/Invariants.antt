use Rattle.std.proofs.Common.{◌≡◌, drop}
use Rattle.lu_explain.specs.OrderLines.{number_of, is_call}
use Rattle.lu_explain.proofs.order_writing.called_at.Given as goal

abbrev pub invariant-loop-i : goal.invariant-loop-i
invariant-loop-i l = number_of (is_call l.a) (drop l.i l.events) (drop l.i l.numbers) ≡ number_of (is_call l.a) l.events l.numbers
