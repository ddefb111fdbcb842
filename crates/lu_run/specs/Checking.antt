-- Whether a list of events is a run.
use Rattle.std.specs.Prelude.{◌≡◌, ℕ, ◌+◌, ◌<◌, Bool, false, MatchBool, List, [], ◌∷◌, ◌++◌, length, get_or, Option, Some, None}
use Rattle.lu_test.specs.declared.matrix.Call.{Call as ACall}
use Rattle.lu_machine.specs.declared.event.Event.{Event}
use Rattle.lu_history.specs.Histories.{calls, outcomes}
use Rattle.lu_linearization.specs.Linearizations.{ComesNext}
use Rattle.lu_run.specs.declared.run.RunEvent.{RunEvent}
use Rattle.lu_run.specs.Runs.{IsEventOf, next_event}

-- of each of eight threads, whether it has a pending call in h
abbrev pub TellsPending : List Bool → List Event → Type 0
TellsPending pending h =
    (t : ℕ) → t < 8
    → MatchBool (get_or pending t false) (calls t h ≡ length (outcomes t h) + 1)
    (calls t h ≡ length (outcomes t h))

-- the event may come next after h
abbrev pub MayComeNext : List ACall → List Event → RunEvent → Type 0
MayComeNext table h e = IsEventOf table e × ComesNext h (next_event h e)

-- the event may come next, and these threads have a pending call then; or it may not
abbrev pub Accepts : List ACall → List Bool → RunEvent → Option (List Bool) → Type 0
Accepts table pending e (Some next) =
    (h : List Event) → TellsPending pending h
    → MayComeNext table h e × TellsPending next (h ++ next_event h e ∷ [])
Accepts table pending e None =
    (h : List Event) → TellsPending pending h → MayComeNext table h e → ⊥
