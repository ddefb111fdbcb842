use Rattle.std.proofs.Common.{◌<◌, ◌≤◌, length}
use Rattle.std.specs.Prelude.{All}
use Rattle.lu_test.specs.Schedule.{IsMove}
use Rattle.lu_graph.proofs.WayBack.{GoesBy}
use Rattle.lu_graph.proofs.losing.schedule_to.Given as goal

abbrev pub invariant-loop-at : goal.invariant-loop-at
invariant-loop-at l = record {
  within : l.at < length l.ways;
  few : length l.moves.items ≤ 4112;
  moves : All IsMove l.moves.items;
  goes : GoesBy l.ways l.number l.at l.moves.items;
}

abbrev pub decreases-loop-at : goal.decreases-loop-at
decreases-loop-at l = l.at
