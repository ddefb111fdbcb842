-- Lists of events that compare as equal are the same.
use Rattle.std.proofs.Common.{◌≡◌, Bool, true, false, ◌&&◌, List, [], ◌∷◌, rules, refl}
use lib.Pointwise.{pointwise}
use Rattle.lu_machine.specs.declared.event.Event.{Event}
use Rattle.lu_machine.specs.declared.event.Event.TheVariants.{Call, Return}
use Rattle.lu_machine.specs.declared.event.Outcome.{Outcome}
use Rattle.lu_machine.specs.declared.event.Outcome.TheVariants.{Ret, Trap}
use Rattle.lu_machine.specs.contracts.event.EventPartialEq as event
use Rattle.lu_machine.specs.contracts.event.OutcomePartialEq as outcome

pub same_outcome : (a b : Outcome) → (outcome.TheImpl.ghosts).eq a b ≡ true → a ≡ b
same_outcome (Ret n) (Ret m) h = search rules
same_outcome (Ret n) Trap h = search rules
same_outcome Trap (Ret m) h = search rules
same_outcome Trap Trap h = refl

pub same_event : (a b : Event) → (event.TheImpl.ghosts).eq a b ≡ true → a ≡ b
same_event (Call t k) (Call u l) h = search rules
same_event (Call t k) (Return u l p) h = search rules
same_event (Return t k o) (Call u l) h = search rules
same_event (Return t k o) (Return u l p) h = search rules

by_first : (x y : Event) (xs ys : List Event) (b : Bool) → (pointwise (event.TheImpl.ghosts).eq xs ys ≡ true → xs ≡ ys) → (event.TheImpl.ghosts).eq x y ≡ b → (b && pointwise (event.TheImpl.ghosts).eq xs ys) ≡ true → x ∷ xs ≡ y ∷ ys
by_first x y xs ys true rest e h = let a = same_event x y e in let b = rest h in cc
by_first x y xs ys false rest e h = search rules

pub same_events : (xs ys : List Event) → pointwise (event.TheImpl.ghosts).eq xs ys ≡ true → xs ≡ ys
same_events [] [] h = refl
same_events [] (y ∷ ys) h = search rules
same_events (x ∷ xs) [] h = search rules
same_events (x ∷ xs) (y ∷ ys) h = by_first x y xs ys ((event.TheImpl.ghosts).eq x y) (same_events xs ys) refl h

abbrev pub event_eq : Event → Event → Bool
event_eq = (event.TheImpl.ghosts).eq

abbrev pub events_eq : List Event → List Event → Bool
events_eq = pointwise event_eq
