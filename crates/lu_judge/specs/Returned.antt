-- Operations in the order in which they return.
use Rattle.std.specs.Prelude.{List, [], ◌∷◌}
use Rattle.lu_machine.specs.declared.event.Event.{Event}
use Rattle.lu_machine.specs.declared.event.Event.TheVariants.{Call, Return}
use Rattle.lu_history.specs.declared.serial.SerialOp.{SerialOp}
use Rattle.lu_history.specs.Parts.{as_serial}

-- the operations that return, in the order in which they do
abbrev pub returned : List Event → List SerialOp
returned [] = []
returned (Call t k ∷ h) = returned h
returned (Return t k outcome ∷ h) = record { thread = t; outcome = as_serial outcome } ∷ returned h
