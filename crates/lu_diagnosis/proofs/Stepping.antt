-- A schedule, move after move.
use Rattle.std.proofs.Common.{◌≡◌, ℕ, ◌+◌, ◌<◌, ◌≤◌, List, [], ◌++◌, length, take, get_or, slice_get, Option, Some, ◌∙◌}
use Rattle.std.proofs.lemmas.List.{take_all, take_more}
use Rattle.std.proofs.lemmas.Option.{slice_get-get_or}
use Rattle.lu_component.specs.Component.{Component}
use Rattle.lu_test.specs.declared.schedule.Move.{Move}
use Rattle.lu_test.specs.Matrix.{Matrix}
use Rattle.lu_machine.specs.declared.event.Event.{Event}
use Rattle.lu_machine.specs.States.{State}
use Rattle.lu_machine.specs.Steps.{Step, IsFeasible}
use Rattle.lu_machine.specs.Runs.{Leads, with_event}
use Rattle.lu_machine.specs.Starts.{IsStart}
use Rattle.lu_machine.proofs.Paths.{child_leads}
use Rattle.lu_diagnosis.specs.NextSteps.{LeadsTo}
use Rattle.lu_machine.specs.Plays.{IsInfeasibleAt}

-- the first i moves lead here
abbrev pub LeadsHere : State → List Move → ℕ → State → Type 0
LeadsHere start u i now = (h : List Event) × Leads start (take i u) now h

-- one move more
pub stepped : (start : State) (u : List Move) (i : ℕ) (d : Move) (now new : State) (event : Option Event) → i < length u → LeadsHere start u i now → Step now (get_or u i d) new event → LeadsHere start u (i + 1) new
stepped start u i d now new event within lead step =
    (lead.0 ++ with_event event [], rw (take_more u i d within) (child_leads start (take i u) now lead.0 lead.1 (get_or u i d) new event step))

-- all of them
pub stepped_all : (c : Component) (matrix : Matrix) (start : State) (u v : List Move) (i : ℕ) (now : State) → IsStart c matrix start → u ≡ v → length u ≤ i → LeadsHere start u i now → LeadsTo c matrix v now
stepped_all c matrix start u v i now is same past lead =
    let moves : take i u ≡ v = take_all i u past ∙ same in
    (lead.0, (start, is, rw (← moves) lead.1))

-- to a move that is not feasible
pub stepped_to : (c : Component) (matrix : Matrix) (start : State) (u v : List Move) (i : ℕ) (now : State) (d : Move) → IsStart c matrix start → u ≡ v → i < length u → LeadsHere start u i now → (IsFeasible now (get_or u i d) → ⊥) → IsInfeasibleAt c matrix v i
stepped_to c matrix start u v i now d is same within lead infeasible =
    let at : slice_get v i ≡ Some (get_or u i d) = rw (← same) (slice_get-get_or u i d within) in
    (now, lead.0, get_or u i d, (start, is, rw (← same) lead.1), at, infeasible)
