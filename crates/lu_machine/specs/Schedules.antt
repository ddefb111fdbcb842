-- Schedules: where they lead, which of them are ended or cut, and sets of them.
use Rattle.std.specs.Prelude.{◌≡◌, ℕ, ◌≤◌, ◌⊎◌, List, [], ◌∷◌, ◌++◌, length}
use Rattle.lu_test.specs.declared.schedule.Move.{Move}
use Rattle.lu_machine.specs.declared.counts.Counts.{Counts}
use Rattle.lu_machine.specs.declared.event.Event.{Event}
use Rattle.lu_machine.specs.States.{State}
use Rattle.lu_machine.specs.Runs.{Leads}
use Rattle.lu_machine.specs.Ends.{HasMove, IsComplete, IsStuck}
use Rattle.lu_machine.specs.Order.{IsSmaller}
use Rattle.lu_machine.specs.Sums.{capped}

-- the first moves of u are those of from
abbrev pub BeginsWith : List Move → List Move → Type 0
BeginsWith u from = (rest : List Move) × (u ≡ from ++ rest)

-- u leads from s to a state, with a history, at which P holds
pub record Reaches (s : State) (u : List Move) (P : State → List Event → Type 0) : Type 0 where
  pub end : State
  pub history : List Event
  pub leads : Leads s u end history
  pub holds : P end history

-- u leads somewhere from s
abbrev pub IsSchedule : State → List Move → Type 0
IsSchedule s u = Reaches s u (λ _ _. Unit {0})

-- u is complete, and has no more moves than the bound
abbrev pub IsCompleteWithin : State → ℕ → List Move → Type 0
IsCompleteWithin s bound u = (length u ≤ bound) × Reaches s u (λ end _. IsComplete end)

-- u is stuck, and has no more moves than the bound
abbrev pub IsStuckWithin : State → ℕ → List Move → Type 0
IsStuckWithin s bound u = (length u ≤ bound) × Reaches s u (λ end _. IsStuck end)

-- u is complete or stuck, and has no more moves than the bound
abbrev pub IsEndedWithin : State → ℕ → List Move → Type 0
IsEndedWithin s bound u = IsCompleteWithin s bound u ⊎ IsStuckWithin s bound u

-- u has as many moves as the bound, and a thread is enabled
abbrev pub IsCutAt : State → ℕ → List Move → Type 0
IsCutAt s bound u = (length u ≡ bound) × Reaches s u (λ end _. HasMove end)

-- ended within the bound, or cut at it
abbrev pub IsCounted : State → ℕ → List Move → Type 0
IsCounted s bound u = IsEndedWithin s bound u ⊎ IsCutAt s bound u

-- u is of this kind, and no smaller schedule is
pub record IsLeast (Kind : List Move → Type 0) (u : List Move) : Type 0 where
  pub kind : Kind u
  pub least : (v : List Move) → IsSmaller v u → Kind v → ⊥

-- u stands in the list
abbrev pub Lists : List (List Move) → List Move → Type 0
Lists [] u = ⊥
Lists (v ∷ vs) u = (v ≡ u) ⊎ Lists vs u

-- sorted and without repeats
abbrev pub IsRising : List (List Move) → Type 0
IsRising [] = Unit {0}
IsRising (v ∷ vs) = ((u : List Move) → Lists vs u → IsSmaller v u) × IsRising vs

-- the list holds exactly the schedules of this kind, sorted and without repeats
pub record AreAll (Kind : List Move → Type 0) (list : List (List Move)) : Type 0 where
  pub rising : IsRising list
  pub only : (u : List Move) → Lists list u → Kind u
  pub each : (u : List Move) → Kind u → Lists list u

-- n is the number of the schedules of this kind: the length of that list, 2^64 - 1 standing for
-- that or more
pub record IsNumber (Kind : List Move → Type 0) (n : ℕ) : Type 0 where
  pub list : List (List Move)
  pub all : AreAll Kind list
  pub number : n ≡ capped (length list)

-- the numbers of the schedules of the part that are complete within the bound, stuck within it, and
-- cut at it
pub record AreNumbers (s : State) (bound : ℕ) (Part : List Move → Type 0)
    (counts : Counts) : Type 0 where
  pub complete : IsNumber (λ u. Part u × IsCompleteWithin s bound u) counts.complete
  pub stuck : IsNumber (λ u. Part u × IsStuckWithin s bound u) counts.stuck
  pub cut : IsNumber (λ u. Part u × IsCutAt s bound u) counts.cut

-- Sorted, none a beginning of another, and each schedule that is ended within the bound or cut at
-- it begins with exactly one. That a piece is a schedule is not asked: `IsSchedule s` of each piece
-- says it, where it is wanted.
pub record IsCover (s : State) (bound : ℕ) (pieces : List (List Move)) : Type 0 where
  pub rising : IsRising pieces
  pub apart : (p q : List Move) → Lists pieces p → Lists pieces q → BeginsWith q p → p ≡ q
  pub covers : (u : List Move) → IsCounted s bound u
      → (p : List Move) × Lists pieces p × BeginsWith u p
      × ((q : List Move) → Lists pieces q → BeginsWith u q → q ≡ p)
