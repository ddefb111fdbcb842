-- Serial witnesses of histories (Burckhardt, Dern, Musuvathi and Tan, 2010).
use Rattle.std.specs.Prelude.{◌≡◌, ℕ, ◌<◌, ◌==◌, if◌then◌else◌, IsTrue, List, [], ◌∷◌, length, take, Some, slice_get}
use Rattle.lu_machine.specs.declared.event.Event.{Event}
use Rattle.lu_history.specs.declared.operation.OpId.{OpId}
use Rattle.lu_history.specs.declared.serial.SerialOutcome.{SerialOutcome}
use Rattle.lu_history.specs.declared.serial.SerialOp.{SerialOp}
use Rattle.lu_history.specs.Histories.{Precedes, IsPending}
use Rattle.lu_history.specs.Parts.{part, keep_pending}
use Rattle.lu_trie.specs.Members.{contains}
use Rattle.lu_witness.specs.declared.judgement.Verdict.{Verdict}
use Rattle.lu_witness.specs.declared.judgement.Verdict.TheVariants.{Good, NoWitness, NoWitnessFor}

-- how thread t's operations ended in a serial history, in order
abbrev pub entries : ℕ → List SerialOp → List SerialOutcome
entries t [] = []
entries t (op ∷ q) = if op.thread == t then op.outcome ∷ entries t q else entries t q

-- entry i is the operation: that of its thread with as many before it as the number of its call
abbrev pub IsEntryAt : List SerialOp → ℕ → OpId → Type 0
IsEntryAt q i a =
    (op : SerialOp) × (slice_get q i ≡ Some op) × (op.thread ≡ a.t)
    × (length (entries a.t (take i q)) ≡ a.k)

-- a stands before b
abbrev pub StandsBefore : List SerialOp → OpId → OpId → Type 0
StandsBefore q a b = (i j : ℕ) × (i < j) × IsEntryAt q i a × IsEntryAt q j b

-- each thread has its part of the history, and what precedes stands before
pub record IsWitness (q : List SerialOp) (h : List Event) : Type 0 where
  pub parts : (t : ℕ) → entries t q ≡ part t h
  pub order : (a b : OpId) → Precedes h a b → StandsBefore q a b

-- the serial history is one of the list
abbrev pub IsMember : List (List SerialOp) → List SerialOp → Type 0
IsMember histories q = IsTrue (contains histories q)

-- some serial history of the set is a witness
abbrev pub HasWitness : (List SerialOp → Type 0) → List Event → Type 0
HasWitness Set h = (q : List SerialOp) × Set q × IsWitness q h

-- a witness of the history where no call is pending, and else one for each pending call
pub record IsGood (Set : List SerialOp → Type 0) (h : List Event) : Type 0 where
  pub complete : ((a : OpId) → IsPending h a → ⊥) → HasWitness Set h
  pub stuck : (a : OpId) → IsPending h a → HasWitness Set (keep_pending a.t h)

-- thread t is the least whose pending call has no witness
pub record IsLeastWithout (Set : List SerialOp → Type 0) (h : List Event) (t : ℕ) : Type 0 where
  pub pending : (k : ℕ) × IsPending h (record { t = t; k = k })
  pub without : HasWitness Set (keep_pending t h) → ⊥
  pub least : (a : OpId) → a.t < t → IsPending h a → HasWitness Set (keep_pending a.t h)

-- what `verdict` answers: the history has its witnesses; or no call is pending and it has none; or
-- the least thread whose pending call has none
abbrev pub IsVerdict : (List SerialOp → Type 0) → List Event → Verdict → Type 0
IsVerdict Set h Good = IsGood Set h
IsVerdict Set h NoWitness = ((a : OpId) → IsPending h a → ⊥) × (HasWitness Set h → ⊥)
IsVerdict Set h (NoWitnessFor t) = IsLeastWithout Set h t
