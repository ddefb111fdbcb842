-- Whether a serial history keeps the outcomes and the precedence of a history that goes on.
use Rattle.std.specs.Prelude.{◌≡◌, ◌↔◌, ℕ, ◌<◌, List, [], ◌∷◌, ◌++◌, take, Some, slice_get}
use Rattle.lu_machine.specs.declared.event.Event.{Event}
use Rattle.lu_machine.specs.declared.event.Event.TheVariants.{Return}
use Rattle.lu_machine.specs.declared.event.Outcome.{Outcome}
use Rattle.lu_history.specs.declared.operation.OpId.{OpId}
use Rattle.lu_history.specs.declared.serial.SerialOp.{SerialOp}
use Rattle.lu_history.specs.Histories.{IsReturnAt, calls}
use Rattle.lu_history.specs.Parts.{as_serial}
use Rattle.lu_witness.specs.Witnesses.{IsEntryAt, entries}

-- every operation before a in q is called in h
abbrev pub IsCalledBefore : List SerialOp → List Event → OpId → Type 0
IsCalledBefore q h a =
    (j l : ℕ) (b : OpId) → IsEntryAt q j a → l < j → IsEntryAt q l b → b.k < calls b.t h

-- when an operation returns in h, every operation before it in q has been called
abbrev pub KeepsPrecedence : List SerialOp → List Event → Type 0
KeepsPrecedence q h =
    (i : ℕ) (a : OpId) → IsReturnAt h i a → IsCalledBefore q (take i h) a

-- each operation that returns in h has the same outcome in q
abbrev pub HasOutcomes : List SerialOp → List Event → Type 0
HasOutcomes q h =
    (i : ℕ) (a : OpId) (outcome : Outcome) → slice_get h i ≡ Some (Return a.t a.k outcome)
    → slice_get (entries a.t q) a.k ≡ Some (as_serial outcome)

-- After one more event, q still keeps the precedence, unless the event is the return of an
-- operation and some operation before that in q has not been called.
abbrev pub PrecedenceGoesOn : Type 0
PrecedenceGoesOn =
    (q : List SerialOp) (h : List Event) (e : Event) →
    KeepsPrecedence q (h ++ e ∷ [])
    ↔ (KeepsPrecedence q h
    × ((a : OpId) (outcome : Outcome) → e ≡ Return a.t a.k outcome → IsCalledBefore q h a))
