-- How the list of stages that are kept grows.
use Rattle.std.specs.Prelude.{◌≡◌, ℕ, List, ◌++◌, All, Option, Some, slice_get}
use Rattle.indexmap.specs.IndexMap.{IndexMap}
use Rattle.lu_component.specs.Component.{Component}
use Rattle.lu_test.specs.declared.schedule.Move.{Move}
use Rattle.lu_test.specs.Matrix.{Matrix}
use Rattle.lu_machine.specs.declared.event.Event.{Event}
use Rattle.lu_machine.specs.States.{State}
use Rattle.lu_machine.specs.Steps.{Step}
use Rattle.lu_conform.specs.declared.growing.SoFar.{SoFar}
use Rattle.lu_conform.specs.declared.kept.Arrival.{Arrival}
use Rattle.lu_conform.specs.declared.kept.Kept.{Kept}
use Rattle.lu_conform.specs.Packing.{CanStandWith, owners_in, standing_in, values_in}
use Rattle.lu_conform.specs.Stages.{Follows, Stage, stage_of}

-- a stage, as it is kept, and how it was first reached: the start was not
abbrev pub Entry : Type 0
Entry = Kept × Option Arrival

-- by the move m, from the stage at this place
abbrev pub arrived : ℕ → Move → Option Arrival
arrived place m = Some (record { parent = place; by = m })

-- the stage for which it stands, of a run of the component and the matrix
abbrev pub stands_for : Component → Matrix → Kept → Stage
stands_for c matrix kept = record {
  state = record {
    component = c;
    matrix = matrix;
    cells = values_in c matrix kept.numbers.items;
    locks = owners_in c kept.numbers.items;
    threads = standing_in c matrix kept.numbers.items;
  };
  seen = kept.seen;
}

-- a machine can stand there, it stands for this stage, and it was reached so
pub record IsKeptAs (c : Component) (matrix : Matrix) (stage : Stage) (arrival : Option Arrival)
    (entry : Entry) : Type 0 where
  pub stands : CanStandWith c matrix entry.0.numbers.items
  pub stage_is : stands_for c matrix entry.0 ≡ stage
  pub arrival_is : entry.1 ≡ arrival

-- one of the list stands for the stage
abbrev pub Keeps : Component → Matrix → List Entry → Stage → Type 0
Keeps c matrix list stage =
    (i : ℕ) × (entry : Entry) × (slice_get list i ≡ Some entry)
    × (stands_for c matrix entry.0 ≡ stage)

-- new is old, and after it only such
abbrev pub GrowsBy : (Entry → Type 0) → List Entry → List Entry → Type 0
GrowsBy Such old new = (more : List Entry) × (new ≡ old ++ more) × All Such more

-- the stage is there, and no other is added; if it is added, it was reached so
pub record AddsStage (c : Component) (matrix : Matrix) (stage : Stage) (arrival : Option Arrival)
    (old new : List Entry) : Type 0 where
  pub there : Keeps c matrix new stage
  pub grows : GrowsBy (IsKeptAs c matrix stage arrival) old new

-- it stands for s after this event, or none, which follows h
abbrev pub IsFollowing : State → List Event → ℕ → Option Event → Option Arrival → Entry → Type 0
IsFollowing s h seen event arrival entry =
    (after : ℕ) × Follows h seen event after
    × IsKeptAs s.component s.matrix (stage_of s after) arrival entry

-- s is there after this event, or none, where that follows h, and no other is added
pub record AddsFollowing (s : State) (h : List Event) (seen : ℕ) (event : Option Event)
    (arrival : Option Arrival) (old new : List Entry) : Type 0 where
  pub there : (after : ℕ) → Follows h seen event after
      → Keeps s.component s.matrix new (stage_of s after)
  pub grows : GrowsBy (IsFollowing s h seen event arrival) old new

-- it stands for a stage to which a move of s leads that follows h, and was reached by that move
-- from the stage at this place
abbrev pub IsNext : State → List Event → ℕ → ℕ → Entry → Type 0
IsNext s h seen place entry =
    (m : Move) × (next : State) × (event : Option Event) × (after : ℕ)
    × Step s m next event × Follows h seen event after
    × IsKeptAs s.component s.matrix (stage_of next after) (arrived place m) entry

-- all stages to which moves of s lead that follow h are there, and no others are added
pub record AddsNext (s : State) (h : List Event) (seen place : ℕ) (old new : List Entry)
    : Type 0 where
  pub there : (m : Move) (next : State) (event : Option Event) (after : ℕ) → Step s m next event
      → Follows h seen event after → Keeps s.component s.matrix new (stage_of next after)
  pub grows : GrowsBy (IsNext s h seen place) old new

-- ---- the same, of the stages of a search

-- the stage at which s stands is there, and if it is added, it was reached so
abbrev pub AddsHere : {S : Type 0} → State → ℕ → Option Arrival → IndexMap Kept (Option Arrival) S
    → IndexMap Kept (Option Arrival) S → Type 0
AddsHere s seen arrival old new =
    AddsStage s.component s.matrix (stage_of s seen) arrival old.entries new.entries

-- s is there after the move m with this event, or none, where that follows
abbrev pub AddsAfter : {S : Type 0} → State → SoFar → Move → Option Event
    → IndexMap Kept (Option Arrival) S → IndexMap Kept (Option Arrival) S → Type 0
AddsAfter s so_far m event old new =
    AddsFollowing s so_far.events.now so_far.seen event (arrived so_far.place m)
    old.entries new.entries

-- all stages to which moves of s lead that follow are there
abbrev pub AddsAhead : {S : Type 0} → State → SoFar → IndexMap Kept (Option Arrival) S
    → IndexMap Kept (Option Arrival) S → Type 0
AddsAhead s so_far old new =
    AddsNext s so_far.events.now so_far.seen so_far.place old.entries new.entries
