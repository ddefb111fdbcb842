-- Laws of explanations.
use Rattle.std.specs.Prelude.{◌≡◌, ◌≢◌, ◌↔◌, ℕ, ◌≤◌, ◌++◌, Bool, IsTrue, List, ◌∷◌, [], length, Option, None, Some, slice_get}
use Rattle.lu_machine.specs.declared.event.Event.{Event}
use Rattle.lu_history.specs.declared.serial.SerialOp.{SerialOp}
use Rattle.lu_history.specs.declared.serial.SerialOutcome.{SerialOutcome}
use Rattle.lu_history.specs.Histories.{IsWellFormed, pending}
use Rattle.lu_history.specs.Parts.{part}
use Rattle.lu_history.specs.Serial.{IsSerial}
use Rattle.lu_trie.specs.Conflicts.{IsDeterministic}
use Rattle.lu_witness.specs.Witnesses.{HasWitness, IsMember, IsWitness, entries}
use Rattle.lu_explain.specs.declared.explanation.Reason.TheVariants.{Outcome}
use Rattle.lu_explain.specs.AnyOrders.{IsAnyOrder, AnyOrder, TellsAnyOrder}
use Rattle.lu_explain.specs.Explanations.{Following, Explanation, HasFirst, IsBeginningInSet, IsExplanation, IsPartialWitness, reason_of}

-- the serial histories that a test takes
abbrev pub Taken : (List SerialOp → Bool) → List SerialOp → Type 0
Taken test q = IsTrue (test q)

-- a history has one explanation
abbrev pub OneExplanation : Type 0
OneExplanation =
    (test : List SerialOp → Bool) (h : List Event) (d e : Explanation)
    → IsExplanation (Taken test) h d → IsExplanation (Taken test) h e → d ≡ e

-- no thread has an operation left
abbrev pub IsAll : Explanation → Type 0
IsAll e = (t : ℕ) → reason_of e t ≡ None

-- where a history has a witness, its explanation leaves nothing
abbrev pub NothingLeft : Type 0
NothingLeft =
    (test : List SerialOp → Bool) (h : List Event) (e : Explanation) → IsWellFormed h
    → IsExplanation (Taken test) h e → HasWitness (Taken test) h → IsAll e

-- what is begun in the set and has all operations of h is in the set
abbrev pub HasEnds : (List SerialOp → Type 0) → List Event → Type 0
HasEnds Set h =
    (p : List SerialOp) → IsBeginningInSet Set p → ((t : ℕ) → entries t p ≡ part t h) → Set p

-- in such a set what leaves nothing is a witness
abbrev pub AllIsWitness : Type 0
AllIsWitness =
    (test : List SerialOp → Bool) (h : List Event) (e : Explanation) → IsWellFormed h
    → HasEnds (Taken test) h → IsExplanation (Taken test) h e → IsAll e
    → IsWitness e.order h × Taken test e.order

-- a set that is closed under beginnings is such a set
abbrev pub ClosedHasEnds : Type 0
ClosedHasEnds =
    (test : List SerialOp → Bool) (h : List Event) → Taken test []
    → ((p q : List SerialOp) → Taken test (p ++ q) → Taken test p) → HasEnds (Taken test) h

-- so is a set where `Stuck` stands only last, for a history with a pending call
abbrev pub StuckHasEnds : Type 0
StuckHasEnds =
    (test : List SerialOp → Bool) (h : List Event) (t : ℕ) → IsWellFormed h
    → IsTrue (pending t h) → ((q : List SerialOp) → Taken test q → IsSerial q)
    → HasEnds (Taken test) h

-- so is a set with a member, of which none has more operations of a thread than the history
abbrev pub FullHasEnds : Type 0
FullHasEnds =
    (test : List SerialOp → Bool) (h : List Event) (m : List SerialOp) → Taken test m
    → ((q : List SerialOp) (t : ℕ) → Taken test q → length (entries t q) ≤ length (part t h))
    → HasEnds (Taken test) h

-- no operation can come after the order
abbrev pub NoneGoesOn : Type 0
NoneGoesOn =
    (test : List SerialOp → Bool) (h : List Event) (e : Explanation) (op : SerialOp)
    → IsExplanation (Taken test) h e
    → IsPartialWitness (Taken test) h (e.order ++ op ∷ []) → ⊥

-- in a set without conflicts a thread goes on after p with one outcome at most
abbrev pub OneOutcomeAfter : Type 0
OneOutcomeAfter =
    (members : List (List SerialOp)) (p : List SerialOp) (t : ℕ) (o x : SerialOutcome)
    → IsDeterministic members → HasFirst (Following (IsMember members) p) t o
    → HasFirst (Following (IsMember members) p) t x → o ≡ x

-- there is one least order of a kind with one first broken precedence, or none
abbrev pub OneAnyOrder : Type 0
OneAnyOrder =
    (test : List SerialOp → Bool) (h : List Event) (d e : Option AnyOrder) → IsWellFormed h
    → TellsAnyOrder (Taken test) h d → TellsAnyOrder (Taken test) h e → d ≡ e

-- an order breaks no precedence exactly where it is a witness
abbrev pub UnbrokenIsWitness : Type 0
UnbrokenIsWitness =
    (test : List SerialOp → Bool) (h : List Event) (o : AnyOrder) → IsWellFormed h
    → IsAnyOrder (Taken test) h o → (o.broken ≡ None) ↔ IsWitness o.order h

-- the outcome that a reason names is not the one in the history
abbrev pub OtherOutcome : Type 0
OtherOutcome =
    (test : List SerialOp → Bool) (h : List Event) (e : Explanation) (t : ℕ) (o : SerialOutcome)
    → IsWellFormed h → IsExplanation (Taken test) h e → reason_of e t ≡ Some (Outcome o)
    → slice_get (part t h) (length (entries t e.order)) ≢ Some o
