-- What the seats of a board have done, all together.
use Rattle.std.specs.Prelude.{ℕ, List, ◌++◌}
use Rattle.std.specs.List.{flat_map}
use Rattle.lu_board.specs.Pieces.{HasEachOnce}
use Rattle.lu_board.specs.Seats.{Seat}

-- the pieces that the seats settled clean, in one list
abbrev pub clean_by : List Seat → List ℕ
clean_by seats = flat_map (λ s. s.view.clean) seats

-- the pieces that they found bad
abbrev pub found_by : List Seat → List ℕ
found_by seats = flat_map (λ s. s.view.found) seats

-- the pieces that they skipped
abbrev pub skipped_by : List Seat → List ℕ
skipped_by seats = flat_map (λ s. s.view.skipped) seats

-- the pieces that they gave up
abbrev pub given_by : List Seat → List ℕ
given_by seats = flat_map (λ s. s.view.given) seats

-- each piece below n is exactly once among the seats' clean, found, skipped and given pieces, and
-- no other is there
abbrev pub SharesOut : ℕ → List Seat → Type 0
SharesOut n seats =
    HasEachOnce n (clean_by seats ++ found_by seats ++ skipped_by seats ++ given_by seats)
