-- The moves that led to the stages that are kept.
use Rattle.std.specs.Prelude.{◌≡◌, ℕ, ◌<◌, List, [], ◌∷◌, length, reverse, Option, Some, None, slice_get}
use Rattle.std.specs.Option.{option_and_then}
use Rattle.lu_test.specs.declared.schedule.Move.{Move}
use Rattle.lu_conform.specs.declared.kept.Arrival.{Arrival}
use Rattle.lu_conform.specs.Growing.{Entry, arrived}

-- how the stage at a place was reached; None of the start
abbrev pub arrival_at : List Entry → ℕ → Option Arrival
arrival_at list place = option_and_then (λ (entry : Entry). entry.1) (slice_get list place)

-- each stage was reached from one before it
abbrev pub HasParentsBefore : List Entry → Type 0
HasParentsBefore list =
    (place : ℕ) (arrival : Arrival) → arrival_at list place ≡ Some arrival → arrival.parent < place

-- these moves, last to first, led from the start to the stage at this place
abbrev pub IsWayBack : List Entry → ℕ → List Move → Type 0
IsWayBack list place [] = (place < length list) × (arrival_at list place ≡ None)
IsWayBack list place (m ∷ before) =
    (parent : ℕ) × (arrival_at list place ≡ arrived parent m) × IsWayBack list parent before

-- these moves, first to last
abbrev pub IsWayTo : List Entry → ℕ → List Move → Type 0
IsWayTo list place u = IsWayBack list place (reverse u)
