-- Operations that run alone.
use Rattle.std.specs.Prelude.{ℕ, List, [], ◌∷◌}
use Rattle.lu_machine.specs.declared.event.Event.{Event}
use Rattle.lu_machine.specs.declared.event.Event.TheVariants.{Call, Return}
use Rattle.lu_machine.specs.declared.event.Outcome.TheVariants.{Ret}

-- the first call of thread t, and its return of this number
abbrev pub first_operation : ℕ → ℕ → List Event
first_operation t number = Call t 0 ∷ Return t 0 (Ret number) ∷ []
