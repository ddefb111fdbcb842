use Rattle.std.proofs.Common.{◌≡◌}
use Rattle.lu_client.specs.Rounds.{repeated}
use Rattle.lu_forever.proofs.repeating.repeat.Given as goal

abbrev pub invariant-loop-round : goal.invariant-loop-round
invariant-loop-round l = l.calls.items ≡ repeated l._round l.line
