-- What is kept of the entries without marks, to find firm conflicts.
use Rattle.std.specs.Prelude.{◌≡◌, ◌↔◌, ◌⊎◌, ℕ, Bool, true, false, ◌++◌, MatchBool, List, [], ◌∷◌, take, slice_get, Some}
use Rattle.lu_text.specs.declared.fault.Fault.{Fault}
use Rattle.lu_text.specs.declared.fault.Fault.TheVariants.{At, Memory}
use Rattle.lu_text.specs.Words.{Word}
use Rattle.lu_history.specs.declared.serial.SerialOp.{SerialOp}
use Rattle.lu_history.specs.declared.serial.SerialOutcome.TheVariants.{Stuck}
use Rattle.lu_test.specs.Matrix.{Matrix}
use Rattle.lu_spec.specs.declared.fault.SpecFaultKind.{SpecFaultKind}
use Rattle.lu_spec.specs.declared.firm.FirmEnds.{FirmEnds}
use Rattle.lu_spec.specs.declared.free.FreeDraft.{FreeDraft}
use Rattle.lu_spec.specs.declared.marked_line.MarkedOp.{MarkedOp}
use Rattle.lu_spec.specs.Beginnings.{AddsBeginnings, Has}
use Rattle.lu_spec.specs.Collecting.{lists}
use Rattle.lu_spec.specs.FreeSpecs.{IsFaultOfFree}
use Rattle.lu_spec.specs.MarkedEntries.{SayMarked, erased, firm}
use Rattle.lu_spec.specs.Specs.{FitsMatrix}

abbrev pub with_outcome : SerialOp → SerialOp
with_outcome op = op

-- the operation with its outcome left out: `Stuck` stands in its place
abbrev pub without_outcome : SerialOp → SerialOp
without_outcome op = record { thread = op.thread; outcome = Stuck }

-- the operation, with its outcome or without
abbrev pub as_kept : Bool → SerialOp → SerialOp
as_kept true op = with_outcome op
as_kept false op = without_outcome op

-- a beginning of q that ends with an entry without a mark, of which f says the last operation
abbrev pub EndsFirmly : (SerialOp → SerialOp) → List MarkedOp → List SerialOp → Type 0
EndsFirmly f q x =
    (i : ℕ) × (op : SerialOp) × (slice_get q i ≡ Some (firm op))
    × (x ≡ take i (erased q) ++ f op ∷ [])

-- new is old, and these beginnings of q
abbrev pub AddsEnds : (SerialOp → SerialOp) → List (List SerialOp) → List (List SerialOp)
    → List MarkedOp → Type 0
AddsEnds f old new q = (x : List SerialOp) → Has new x ↔ (Has old x ⊎ EndsFirmly f q x)

-- new is old, and what is kept of q
abbrev pub KeepsMore : FirmEnds → FirmEnds → List MarkedOp → Type 0
KeepsMore old new q =
    AddsEnds with_outcome old.ends new.ends q × AddsEnds without_outcome old.asked new.asked q

-- after this beginning the operation is kept with other outcomes alone
abbrev pub Refuses : FirmEnds → List SerialOp → SerialOp → Type 0
Refuses kept begin op =
    Has kept.asked (begin ++ without_outcome op ∷ []) × (Has kept.ends (begin ++ op ∷ []) → ⊥)

-- an entry of q without a mark is refused
abbrev pub RefusesSome : FirmEnds → List MarkedOp → Type 0
RefusesSome kept q =
    (i : ℕ) × (op : SerialOp) × (slice_get q i ≡ Some (firm op))
    × Refuses kept (take i (erased q)) op

-- ---- one line after those of a draft

-- the words say q, which is of the matrix, and no entry of which is refused
pub record IsOneMoreFree (matrix : Matrix) (kept : FirmEnds) (words : List Word)
    (q : List MarkedOp) : Type 0 where
  pub said : SayMarked words q
  pub fits : FitsMatrix matrix (erased q)
  pub apart : RefusesSome kept q → ⊥

-- the line's fault, which is line n, or refused memory
abbrev pub IsFreeRefusal : Matrix → FirmEnds → List Word → ℕ → Fault SpecFaultKind → Type 0
IsFreeRefusal matrix kept words n (At kind number) =
    (number ≡ n) × IsFaultOfFree matrix (RefusesSome kept) words kind
IsFreeRefusal matrix kept words n Memory = Unit {0}

-- the draft, and the history q
pub record AddsFreely (draft next : FreeDraft) (q : List MarkedOp) : Type 0 where
  pub set : AddsBeginnings draft.set next.set (erased q)
  pub kept : KeepsMore draft.kept next.kept q

-- the same histories
pub record ListsTheSame (draft next : FreeDraft) : Type 0 where
  pub set : next.set ≡ draft.set
  pub kept : next.kept ≡ draft.kept

-- the next draft has the history that the line lists, where it lists one
abbrev pub CollectsFreely : Matrix → FreeDraft → List Word → FreeDraft → Type 0
CollectsFreely matrix draft words next =
    MatchBool (lists draft.begun words)
    ((q : List MarkedOp) × IsOneMoreFree matrix draft.kept words q × AddsFreely draft next q)
    (ListsTheSame draft next)

-- the fault of a line that is to list a history, which is line n, or refused memory
abbrev pub RefusesFreely : Matrix → FreeDraft → List Word → ℕ → Fault SpecFaultKind → Type 0
RefusesFreely matrix draft words n (At kind number) =
    (lists draft.begun words ≡ true) × (number ≡ n)
    × IsFaultOfFree matrix (RefusesSome draft.kept) words kind
RefusesFreely matrix draft words n Memory = Unit {0}
