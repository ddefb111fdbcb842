use Rattle.std.proofs.Common.{◌≡◌, map, take}
use Rattle.lu_refine.specs.Choices.{candidate_at}
use Rattle.lu_refine.proofs.choice.calls_of.Given as goal

abbrev pub invariant-loop-number : goal.invariant-loop-number
invariant-loop-number l = l.calls.items ≡ map (candidate_at l.candidates) (take l.number-index l.numbers)
