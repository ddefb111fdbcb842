-- Beginnings of witnesses.
use Rattle.std.specs.Prelude.{◌≡◌, ◌↔◌, ℕ, ◌≤◌, Bool, IsTrue, List, [], ◌∷◌, ◌++◌, length, take, get_or, Some, slice_get}
use Rattle.lu_machine.specs.declared.event.Event.{Event}
use Rattle.lu_history.specs.declared.operation.OpId.{OpId}
use Rattle.lu_history.specs.declared.serial.SerialOp.{SerialOp}
use Rattle.lu_history.specs.Histories.{IsCallAt, outcomes}
use Rattle.lu_history.specs.Parts.{part}
use Rattle.lu_witness.specs.Witnesses.{IsWitness, entries}

-- the next operation of the thread of op, after p
abbrev pub next_of : List SerialOp → SerialOp → OpId
next_of p op = record { t = op.thread; k = length (entries op.thread p) }

-- op ended as the next operation of its thread, and all operations that precede that one are in p
pub record CanComeNext (h : List Event) (p : List SerialOp) (op : SerialOp) : Type 0 where
  pub outcome : slice_get (part op.thread h) (length (entries op.thread p)) ≡ Some op.outcome
  pub before : (j u : ℕ) → IsCallAt h j (next_of p op)
      → length (outcomes u (take j h)) ≤ length (entries u p)

-- each operation is next after those before it
abbrev pub IsBeginning : List Event → List SerialOp → Type 0
IsBeginning h p = (i : ℕ) (op : SerialOp) → slice_get p i ≡ Some op → CanComeNext h (take i p) op

-- how many operations of each thread are in p
abbrev pub AreTaken : List SerialOp → List ℕ → Type 0
AreTaken p taken = (t : ℕ) → get_or taken t 0 ≡ length (entries t p)

-- all operations of the history that returned are taken
abbrev pub AreAllTaken : List ℕ → List Event → Type 0
AreAllTaken taken h = (t : ℕ) → get_or taken t 0 ≡ length (part t h)

-- some member goes on from p to a witness
abbrev pub GoesOnToWitness : (List SerialOp → Type 0) → List SerialOp → List Event → Type 0
GoesOnToWitness Set p h = (q : List SerialOp) × Set q × IsWitness (p ++ q) h

-- whether a beginning of which this many operations are taken goes on to a witness in this set
abbrev pub Finds : (List SerialOp → Type 0) → List ℕ → List Event → Bool → Type 0
Finds Set taken h found =
    (p : List SerialOp) → AreTaken p taken → IsBeginning h p
    → IsTrue found ↔ GoesOnToWitness Set p h

-- whether a beginning of which this many operations are taken is a witness, and nothing goes on
-- from it
abbrev pub FindsEnd : (List SerialOp → Type 0) → List ℕ → List Event → Bool → Type 0
FindsEnd Set taken h found =
    (p : List SerialOp) → AreTaken p taken → IsBeginning h p
    → IsTrue found ↔ (Set [] × IsWitness p h)

-- whether the operation is next after those of which this many are taken
abbrev pub TellsNext : List ℕ → List Event → SerialOp → Bool → Type 0
TellsNext taken h op found =
    (p : List SerialOp) → AreTaken p taken → IsTrue found ↔ CanComeNext h p op

-- one operation more of the thread is taken
abbrev pub TakesOne : ℕ → List ℕ → List ℕ → Type 0
TakesOne thread taken more =
    (p : List SerialOp) (op : SerialOp) → AreTaken p taken → op.thread ≡ thread
    → AreTaken (p ++ op ∷ []) more
