-- Which moves of a schedule have events.
use Rattle.std.specs.Prelude.{◌≡◌, ℕ, suc, List, [], ◌∷◌, Option, Some, None, Result, IfOk, Vec}
use Rattle.lu_component.specs.Component.{Component}
use Rattle.lu_test.specs.declared.schedule.Move.{Move}
use Rattle.lu_test.specs.Matrix.{Matrix}
use Rattle.lu_machine.specs.declared.event.Event.{Event}
use Rattle.lu_machine.specs.States.{State}
use Rattle.lu_machine.specs.Steps.{Step}
use Rattle.lu_machine.specs.Starts.{IsStart}

-- the number in front, where there is an event
abbrev pub with_number : Option Event → ℕ → List ℕ → List ℕ
with_number None n numbers = numbers
with_number (Some event) n numbers = n ∷ numbers

-- The schedule leads from s to `end`, and these moves of it have events, where its first is number
-- n.
abbrev pub LeadsNumbered : State → ℕ → List Move → State → List ℕ → Type 0
LeadsNumbered s n [] end numbers = (end ≡ s) × (numbers ≡ [])
LeadsNumbered s n (m ∷ u) end numbers =
    (next : State) × (event : Option Event) × (rest : List ℕ)
    × Step s m next event × LeadsNumbered next (suc n) u end rest
    × (numbers ≡ with_number event n rest)

-- from the start these moves of the schedule, numbered from 0, have events
abbrev pub AreEventMoves : Component → Matrix → List Move → List ℕ → Type 0
AreEventMoves c matrix u numbers =
    (start : State) × (end : State) × IsStart c matrix start × LeadsNumbered start 0 u end numbers

-- these are the moves, unless memory ran out
abbrev pub TellsEventMoves : {Z E : Type 0} → Component → Matrix → List Move
    → Result (Vec ℕ Z) E → Type 0
TellsEventMoves c matrix u result = IfOk result (λ numbers. AreEventMoves c matrix u numbers.items)
