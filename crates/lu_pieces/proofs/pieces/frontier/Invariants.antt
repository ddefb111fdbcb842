use Rattle.std.proofs.Common.{◌≤◌, length}
use Rattle.lu_machine.specs.Schedules.{AreAll}
use Rattle.lu_machine.specs.Starts.{IsStart}
use Rattle.lu_pieces.specs.Frontiers.{IsPieceAt}
use Rattle.lu_pieces.proofs.pieces.frontier.Given as goal

abbrev pub invariant-loop-level : goal.invariant-loop-level
invariant-loop-level l = record {
  start : IsStart l.component l.matrix l.machine;
  few : length l.pieces.items ≤ 65536;
  all : AreAll (IsPieceAt l.machine l._level) l.pieces.items;
}
