-- The rule of a board: between any two steps its words and the views of all seats fit.
use Rattle.std.specs.Prelude.{◌≡◌, ℕ, ◌+◌, ◌<◌, ◌≤◌, min, ◌⊎◌, List, [], ◌∷◌, All, Contains, sum_by}
use Rattle.std.specs.List.{flat_map}
use Rattle.lu_board.specs.declared.view.View.{View}
use Rattle.lu_board.specs.declared.view.TheConstants.{MAX_PIECES, MAX_WORKERS}
use Rattle.lu_board.specs.Pieces.{HasEachOnce}
use Rattle.lu_board.specs.Views.{blank, pieces_of}

-- one view fits a board of n pieces, with this next piece and this best one
pub record ViewFits (n next best : ℕ) (v : View) : Type 0 where
  -- no found piece is below the best
  pub found : All (λ x. best ≤ x) v.found
  -- every skipped piece is above it
  pub skipped : All (λ x. best < x) v.skipped
  -- no more claims found nothing than there are workers in this seat
  pub spent : v.spent ≤ v.weight
  -- the next piece is none that the seat is past
  pub past : v.past ≤ next
  -- a seat that was not taken in names n, and the best is at most what it saw
  pub sees : 0 < v.weight → (v.pieces ≡ n) × (best ≤ v.seen)
  -- and one that was taken in has nothing left
  pub blank : v.weight ≡ 0 → v ≡ blank

-- the views of all seats fit a board of n pieces and this many workers, with this next piece and
-- this best one
pub record FitsBoard (n workers next best : ℕ) (views : List View) : Type 0 where
  -- each piece below the lesser of next and n is in exactly one set of one view, and no other piece
  -- is in any
  pub once : HasEachOnce (min next n) (flat_map pieces_of views)
  -- the best is a piece that was found, or n, which stands for none
  pub best_found : (best ≡ n) ⊎ Contains (flat_map (λ v. v.found) views) best
  -- each view by itself fits
  pub each : All (ViewFits n next best) views
  -- next goes past n only by claims that found nothing and spent their seats
  pub claims : next ≤ n + sum_by (λ v. v.spent) views
  -- and no seat is spent before next is n
  pub used_up : 0 < sum_by (λ v. v.spent) views → n ≤ next
  -- cutting and gathering seats keeps the sum of the weights
  pub weights : sum_by (λ v. v.weight) views ≡ workers

-- the words are the next piece, the best one, n and the number of workers, and the views fit them
pub record FitsWords (n workers : ℕ) (words : List ℕ) (views : List View) : Type 0 where
  pub next : ℕ
  pub best : ℕ
  pub words_are : words ≡ next ∷ best ∷ n ∷ workers ∷ []
  -- so that next, which is at most n and the workers together, never wraps
  pub small : (n ≤ MAX_PIECES) × (workers ≤ MAX_WORKERS)
  pub fits : FitsBoard n workers next best views
