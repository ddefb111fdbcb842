-- The text of a history.
use Rattle.std.specs.Prelude.{ℕ, List, ◌++◌, codes}
use Rattle.std.specs.Fmt.{decimal}
use Rattle.std.specs.List.{flat_map}
use Rattle.lu_machine.specs.declared.event.Event.{Event}
use Rattle.lu_machine.specs.declared.event.Event.TheVariants.{Call, Return}
pub use Rattle.lu_machine.specs.Events.{outcome_text}
use Rattle.lu_history.specs.declared.serial.SerialOutcome.{SerialOutcome}
use Rattle.lu_history.specs.declared.serial.SerialOutcome.TheVariants as serial

-- thread and number of the call, with a space between
abbrev pub operation_text : ℕ → ℕ → List ℕ
operation_text t k = decimal t ++ codes " " ++ decimal k

-- an event's line
abbrev pub event_text : Event → List ℕ
event_text (Call t k) = codes "call " ++ operation_text t k ++ codes "\n"
event_text (Return t k outcome) =
    codes "return " ++ operation_text t k ++ codes " " ++ outcome_text outcome ++ codes "\n"

-- a line for each event
abbrev pub history_text : List Event → List ℕ
history_text h = flat_map event_text h

-- how an operation of a serial history ended, as it stands in a text
abbrev pub serial_outcome_text : SerialOutcome → List ℕ
serial_outcome_text (serial.Ret n) = codes "ret " ++ decimal n
serial_outcome_text serial.Trap = codes "trap"
serial_outcome_text serial.Stuck = codes "stuck"
