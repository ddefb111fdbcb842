-- Events.
use Rattle.std.specs.Prelude.{ℕ, List, ◌<◌, ◌++◌, codes}
use Rattle.std.specs.Fmt.{decimal}
use Rattle.lu_machine.specs.declared.event.Event.{Event}
use Rattle.lu_machine.specs.declared.event.Event.TheVariants.{Call, Return}
use Rattle.lu_machine.specs.declared.event.Outcome.{Outcome}
use Rattle.lu_machine.specs.declared.event.Outcome.TheVariants.{Ret, Trap}

-- the event is of one of 8 threads and of one of its 8 calls
abbrev pub IsEventInRange : Event → Type 0
IsEventInRange (Call t k) = (t < 8) × (k < 8)
IsEventInRange (Return t k outcome) = (t < 8) × (k < 8)

-- how an operation returned, as it stands in a text
abbrev pub outcome_text : Outcome → List ℕ
outcome_text (Ret n) = codes "ret " ++ decimal n
outcome_text Trap = codes "trap"
