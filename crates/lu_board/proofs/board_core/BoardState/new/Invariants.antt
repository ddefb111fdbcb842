use Rattle.std.proofs.Common.{◌≡◌, replicate}
use Rattle.lu_board.specs.Views.{newcomer}
use Rattle.lu_board.proofs.board_core.BoardState.new.Given as goal

abbrev pub invariant-loop-made : goal.invariant-loop-made
invariant-loop-made l = l.list.items ≡ replicate l._made (newcomer l.pieces 1)
