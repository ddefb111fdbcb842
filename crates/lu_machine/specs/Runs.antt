-- Schedules: where a list of moves leads, and with which history.
use Rattle.std.specs.Prelude.{◌≡◌, List, [], ◌∷◌, Option, Some, None}
use Rattle.lu_test.specs.declared.schedule.Move.{Move}
use Rattle.lu_machine.specs.declared.event.Event.{Event}
use Rattle.lu_machine.specs.States.{State}
use Rattle.lu_machine.specs.Steps.{Step}

-- the history that begins with this event, or with none
abbrev pub with_event : Option Event → List Event → List Event
with_event None history = history
with_event (Some event) history = event ∷ history

-- The schedule leads from the state s to the state `end`, with this history.
abbrev pub Leads : State → List Move → State → List Event → Type 0
Leads s [] end history = (end ≡ s) × (history ≡ [])
Leads s (m ∷ u) end history =
    (next : State) × (event : Option Event) × (rest : List Event)
    × Step s m next event × Leads next u end rest × (history ≡ with_event event rest)
