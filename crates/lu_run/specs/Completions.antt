-- Completions of histories (Herlihy and Wing, 1990), with any number of calls.
use Rattle.std.specs.Prelude.{◌≡◌, List, [], ◌∷◌, ◌++◌}
use Rattle.lu_machine.specs.declared.event.Event.{Event}
use Rattle.lu_machine.specs.declared.event.Event.TheVariants.{Call, Return}
use Rattle.lu_history.specs.declared.serial.SerialOp.{SerialOp}
use Rattle.lu_history.specs.Parts.{keep_pending}
use Rattle.lu_witness.specs.Witnesses.{HasWitness}
use Rattle.lu_linearization.specs.Linearizations.{HasSequentialThreads}

-- each event is a return
abbrev pub AreReturns : List Event → Type 0
AreReturns [] = Unit {0}
AreReturns (Call t k ∷ events) = ⊥
AreReturns (Return t k outcome ∷ events) = AreReturns events

-- g is h, followed by returns of pending calls
abbrev pub Extends : List Event → List Event → Type 0
Extends h g =
    (returns : List Event) × (g ≡ h ++ returns) × AreReturns returns × HasSequentialThreads g

-- the history without its pending calls: those of threads other than 8, which is no thread
abbrev pub without_pending : List Event → List Event
without_pending h = keep_pending 8 h

-- some pending calls return, the others are left out, and what is then complete has a witness
abbrev pub HasCompletion : (List SerialOp → Type 0) → List Event → Type 0
HasCompletion Set h = (g : List Event) × Extends h g × HasWitness Set (without_pending g)
