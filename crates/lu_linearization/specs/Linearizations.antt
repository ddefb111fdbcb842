-- Linearizations (Herlihy and Wing, 1990): serial histories with all operations of a history that
-- have returned, and some that are pending.
use Rattle.std.specs.Prelude.{◌≡◌, ◌↔◌, ◌⊎◌, ℕ, ◌+◌, ◌≤◌, ◌<◌, List, [], ◌∷◌, ◌++◌, length, take, Some, slice_get}
use Rattle.lu_machine.specs.declared.event.Event.{Event}
use Rattle.lu_machine.specs.declared.event.Event.TheVariants.{Call, Return}
use Rattle.lu_machine.specs.declared.event.Outcome.{Outcome}
use Rattle.lu_history.specs.declared.operation.OpId.{OpId}
use Rattle.lu_history.specs.declared.serial.SerialOp.{SerialOp}
use Rattle.lu_history.specs.declared.serial.SerialOutcome.{SerialOutcome}
use Rattle.lu_history.specs.Histories.{IsPending, IsWellFormed, calls, outcomes}
use Rattle.lu_history.specs.Parts.{as_serial, keep_pending}
use Rattle.lu_history.specs.Serial.{IsSerial}
use Rattle.lu_serial.specs.Serial.{stuck_of}
use Rattle.lu_witness.specs.Witnesses.{IsEntryAt, IsWitness, entries}
use Rattle.lu_witness.specs.Search.{next_of}
use Rattle.lu_linearization.specs.Precedence.{HasOutcomes, KeepsPrecedence}

-- ---- histories of any length

-- the event is the next call of a thread whose calls have all returned, or the return of its
-- pending call
abbrev pub ComesNext : List Event → Event → Type 0
ComesNext h (Call t k) = (calls t h ≡ k) × (length (outcomes t h) ≡ k)
ComesNext h (Return t k outcome) = (calls t h ≡ k + 1) × (length (outcomes t h) ≡ k)

-- each thread makes one call at a time; the number of threads and calls is not limited
abbrev pub HasSequentialThreads : List Event → Type 0
HasSequentialThreads h = (i : ℕ) (e : Event) → slice_get h i ≡ Some e → ComesNext (take i h) e

-- every call has returned
abbrev pub AllReturned : List Event → Type 0
AllReturned h = (t : ℕ) → calls t h ≡ length (outcomes t h)

-- ---- linearizations

-- every operation of q is called in h
abbrev pub HasOnlyCalled : List SerialOp → List Event → Type 0
HasOnlyCalled q h = (t : ℕ) → length (entries t q) ≤ calls t h

-- every operation of q has returned in h
abbrev pub HasOnlyReturned : List SerialOp → List Event → Type 0
HasOnlyReturned q h = (t : ℕ) → length (entries t q) ≤ length (outcomes t h)

-- operation a is in q, with this outcome
abbrev pub HasOutcome : List SerialOp → OpId → SerialOutcome → Type 0
HasOutcome q a outcome = slice_get (entries a.t q) a.k ≡ Some outcome

-- q is one of these prefixes of serial histories. Its operations are called in h, and include all
-- that have returned in h, with their outcomes. It keeps the precedence of h.
pub record IsLinearization (Z : List SerialOp → Type 0) (q : List SerialOp) (h : List Event)
    : Type 0 where
  pub member : Z q
  pub called : HasOnlyCalled q h
  pub outcomes : HasOutcomes q h
  pub precedence : KeepsPrecedence q h

-- with each list it has the list's prefixes
abbrev pub IsPrefixClosed : (List SerialOp → Type 0) → Type 0
IsPrefixClosed Z = (p q : List SerialOp) → Z (p ++ q) → Z p

-- q is a linearization of h, followed by a and then by operations that are pending after a is
-- called
pub record ExtendsBy (Z : List SerialOp → Type 0) (q : List SerialOp) (h : List Event)
    (a : OpId) : Type 0 where
  pub before : List SerialOp
  pub op : SerialOp
  pub after : List SerialOp
  pub parts : q ≡ before ++ op ∷ after
  pub linearizes : IsLinearization Z before h
  pub first : next_of before op ≡ a
  pub member : Z q
  pub called : HasOnlyCalled q (h ++ Call a.t a.k ∷ [])

-- ---- one event more

-- After a returns, the linearizations are those in which a has that outcome.
abbrev pub LinearizationsAfterReturn : (List SerialOp → Type 0) → Type 0
LinearizationsAfterReturn Z =
    (q : List SerialOp) (h : List Event) (a : OpId) (outcome : Outcome) →
    IsLinearization Z q (h ++ Return a.t a.k outcome ∷ [])
    ↔ (IsLinearization Z q h × HasOutcome q a (as_serial outcome))

-- After a is called, the linearizations are those from before the call, and those that extend one
-- of them by a.
abbrev pub LinearizationsAfterCall : (List SerialOp → Type 0) → Type 0
LinearizationsAfterCall Z =
    IsPrefixClosed Z →
    (q : List SerialOp) (h : List Event) (a : OpId) →
    HasSequentialThreads (h ++ Call a.t a.k ∷ []) →
    IsLinearization Z q (h ++ Call a.t a.k ∷ [])
    ↔ (IsLinearization Z q h ⊎ ExtendsBy Z q h a)

-- An operation that is called and not yet in a linearization may be appended to it, if the set has
-- the longer list.
abbrev pub PendingMayBeAppended : (List SerialOp → Type 0) → Type 0
PendingMayBeAppended Z =
    (q : List SerialOp) (h : List Event) (op : SerialOp) →
    IsLinearization Z q h → length (entries op.thread q) < calls op.thread h →
    IsLinearization Z (q ++ op ∷ []) h ↔ Z (q ++ op ∷ [])

-- Where one linearization is a prefix of another, the operations of the rest are pending.
abbrev pub RestIsPending : (List SerialOp → Type 0) → Type 0
RestIsPending Z =
    (p r : List SerialOp) (h : List Event) →
    HasSequentialThreads h → IsLinearization Z p h → IsLinearization Z (p ++ r) h →
    (i : ℕ) (a : OpId) → length p ≤ i → IsEntryAt (p ++ r) i a → IsPending h a

-- ---- histories that have ended

-- Where every call has returned, the linearizations are the witnesses.
abbrev pub CompleteIsWitness : (List SerialOp → Type 0) → Type 0
CompleteIsWitness Z =
    (q : List SerialOp) (h : List Event) → HasSequentialThreads h → AllReturned h →
    IsLinearization Z q h ↔ (Z q × IsWitness q h)

-- Take from h all pending calls but that of a. The witnesses that end with a, stuck, are the
-- linearizations without pending operations, each followed by a, stuck.
abbrev pub StuckIsWitness : (List SerialOp → Type 0) → Type 0
StuckIsWitness Z =
    (q : List SerialOp) (h : List Event) (a : OpId) → HasSequentialThreads h → IsPending h a →
    (IsLinearization Z q h × HasOnlyReturned q h)
    ↔ (Z q × IsWitness (q ++ stuck_of a.t ∷ []) (keep_pending a.t h))

-- Every witness of it that is `Stuck` at most in its last entry ends with a, stuck.
abbrev pub StuckEnds : Type 0
StuckEnds =
    (q : List SerialOp) (h : List Event) (a : OpId) → HasSequentialThreads h → IsPending h a →
    IsSerial q → IsWitness q (keep_pending a.t h) →
    (p : List SerialOp) × (q ≡ p ++ stuck_of a.t ∷ [])

-- A history within the limits of lu_history has sequential threads.
abbrev pub WellFormedIsSequential : Type 0
WellFormedIsSequential = (h : List Event) → IsWellFormed h → HasSequentialThreads h
