-- What is known of the moves ahead of a thread.
use Rattle.std.specs.Prelude.{◌≡◌, ◌+◌, ◌≤◌, ◌==◌, min, true, false, ◌&&◌}
use Rattle.lu_horizon.specs.declared.outlook.Outlook.{Outlook}

-- nothing is known
abbrev pub nothing_known : Outlook
nothing_known = record { moves = 0; over = false }

-- no move is left
abbrev pub no_move : Outlook
no_move = record { moves = 0; over = true }

-- one move before
abbrev pub one_before : Outlook → Outlook
one_before o = record { moves = o.moves + 1; over = o.over }

-- where either may come
abbrev pub either : Outlook → Outlook → Outlook
either a b =
    record { moves = min a.moves b.moves; over = (a.over && b.over) && (a.moves == b.moves) }

-- a tells no more than b
pub record IsWeaker (a b : Outlook) : Type 0 where
  pub moves : a.moves ≤ b.moves
  pub over : a.over ≡ true → (b.over ≡ true) × (a.moves ≡ b.moves)
