use Rattle.std.proofs.Common.{◌≡◌, map, take}
use Rattle.lu_client.specs.Rounds.{repeated}
use Rattle.lu_forever.proofs.repeating.repeat_each.Given as goal

abbrev pub invariant-loop-line : goal.invariant-loop-line
invariant-loop-line l = l.rows.items ≡ map (repeated l.rounds) (take l.line-index l.lines)
