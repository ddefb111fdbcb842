-- Which recorded histories a component shows.
use Rattle.std.specs.Prelude.{◌≡◌, ℕ, ◌<◌, List, Some, slice_get}
use Rattle.std.specs.List.{AllZip}
use Rattle.lu_component.specs.Component.{Component}
use Rattle.lu_test.specs.declared.schedule.Move.{Move}
use Rattle.lu_test.specs.Matrix.{Matrix}
use Rattle.lu_recorded.specs.declared.recorded.Recorded.{Recorded}
use Rattle.lu_conform.specs.declared.shown.Conformance.{Conformance}
use Rattle.lu_conform.specs.declared.shown.Conformance.TheVariants.{Conforms, NoneShows, Undecided}
use Rattle.lu_conform.specs.Showing.{IsOutOfReach, IsShortest, IsShownBy, IsShownByNone}

-- each of those with the numbers below n is shown by some schedule
abbrev pub AreShownTo : Component → Matrix → List Recorded → ℕ → Type 0
AreShownTo c matrix all n =
    (k : ℕ) (recorded : Recorded) → k < n → slice_get all k ≡ Some recorded
    → (u : List Move) × IsShownBy c matrix recorded u

-- number n is such, and each before it is shown by some schedule
pub record IsFirstSuch (Such : Recorded → Type 0) (c : Component) (matrix : Matrix)
    (all : List Recorded) (n : ℕ) : Type 0 where
  pub is : (recorded : Recorded) × (slice_get all n ≡ Some recorded) × Such recorded
  pub before : AreShownTo c matrix all n

-- the shortest schedule for each, or the first that no schedule shows or that is out of reach
abbrev pub IsConformance : Component → Matrix → List Recorded → Conformance → Type 0
IsConformance c matrix all (Conforms schedules) =
    AllZip (IsShortest c matrix) all schedules.items
IsConformance c matrix all (NoneShows n) =
    IsFirstSuch (IsShownByNone c matrix) c matrix all n
IsConformance c matrix all (Undecided n) =
    IsFirstSuch (IsOutOfReach c matrix) c matrix all n
