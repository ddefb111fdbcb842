use Rattle.std.proofs.Common.{◌≡◌, ℕ, ◌+◌, ◌≤◌, length}
use Rattle.lu_machine.specs.Schedules.{AreAll}
use Rattle.lu_pieces.specs.Frontiers.{IsPieceAt}
use Rattle.lu_pieces.proofs.PieceLists.{UnderFirst}
use Rattle.lu_pieces.proofs.pieces.go_deeper.Given as goal

abbrev pub invariant-loop-piece : goal.invariant-loop-piece
invariant-loop-piece l = record {
  same : l.machine ≡ l.fn.machine;
  few : length l.next.items ≤ 65536;
  all : (d : ℕ) → AreAll (IsPieceAt l.fn.machine d) l.pieces → AreAll (λ v. UnderFirst l.pieces l.piece-index v × IsPieceAt l.fn.machine (d + 1) v) l.next.items;
}
