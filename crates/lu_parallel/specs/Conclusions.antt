-- What the works of all seats of a board say together.
use Rattle.std.specs.Prelude.{◌≡◌, ℕ, ◌<◌, List, [], map, length, Option, Some, None, Contains}
use Rattle.std.specs.List.{flat_map}
use Rattle.lu_machine.specs.declared.counts.Counts.{Counts}
use Rattle.lu_machine.specs.Sums.{total}
use Rattle.lu_tree.specs.declared.found.Found.{Found}
use Rattle.lu_tree.specs.declared.found.Found.TheVariants.{Clean, Bad, Abandoned}
use Rattle.lu_board.specs.Close.{found_by, skipped_by, given_by}
use Rattle.lu_board.specs.Pieces.{IsLeastPiece}
use Rattle.lu_board.specs.Seats.{Seat}
use Rattle.lu_parallel.specs.declared.works.FoundPiece.{FoundPiece}
use Rattle.lu_parallel.specs.declared.works.Work.{Work}

abbrev pub seats_of : List Work → List Seat
seats_of works = map (λ w. w.seat) works

abbrev pub counts_of_works : List Work → List Counts
counts_of_works works = map (λ w. w.counts) works

-- the bad pieces of all works
abbrev pub founds_of : List Work → List FoundPiece
founds_of works = flat_map (λ w. w.found.items) works

-- the sums of the numbers, where no piece is found; else the schedule of the least found piece, and
-- why it is bad
abbrev pub IsJointResult : List Work → Found → Type 0
IsJointResult works (Clean counts) =
    IsLeastPiece (found_by (seats_of works)) None × (counts ≡ total (counts_of_works works))
IsJointResult works (Bad schedule why) =
    (i : ℕ) × IsLeastPiece (found_by (seats_of works)) (Some i)
    × Contains (founds_of works) (record { piece = i; schedule = schedule; why = why })
IsJointResult works Abandoned = ⊥

-- nothing, where a piece was given up
abbrev pub IsConclusion : List Work → Option Found → Type 0
IsConclusion works None = 0 < length (given_by (seats_of works))
IsConclusion works (Some found) = (given_by (seats_of works) ≡ []) × IsJointResult works found

-- for each skipped piece a lesser one is found
abbrev pub SkipsAbove : List Work → Type 0
SkipsAbove works =
    (i : ℕ) → Contains (skipped_by (seats_of works)) i
    → (j : ℕ) × (j < i) × Contains (found_by (seats_of works)) j
