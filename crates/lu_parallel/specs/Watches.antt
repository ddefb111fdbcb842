-- What a worker's watch leaves as it is.
use Rattle.std.specs.Prelude.{ℕ, nat_eq, Bool, if◌then◌else◌, List, [], ◌∷◌}
use Rattle.lu_board.specs.declared.view.View.{View}

-- the pieces of the list but this one
abbrev pub others : ℕ → List ℕ → List ℕ
others piece [] = []
others piece (x ∷ xs) = if nat_eq piece x then others piece xs else x ∷ others piece xs

-- what a seat knows, but for what it has seen, and for this piece, which it may hold or have
-- skipped
abbrev pub rest_of : ℕ → View → View
rest_of piece v =
    record v { seen = 0; held = others piece v.held; skipped = others piece v.skipped }

-- the piece alone is held, unless the watch has stopped
abbrev pub held_piece : Bool → ℕ → List ℕ
held_piece stopped piece = if stopped then [] else piece ∷ []
