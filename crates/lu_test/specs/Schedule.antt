-- Moves and schedules.
use Rattle.std.specs.Prelude.{◌≤◌, List, length, All}
use Rattle.lu_test.specs.declared.schedule.Move.{Move}

abbrev pub IsMove : Move → Type 0
IsMove m = (m.thread ≤ 7) × (m.pick ≤ 7)

-- the moves of some text of a schedule
abbrev pub AreMoves : List Move → Type 0
AreMoves moves = (length moves ≤ 4112) × All IsMove moves
