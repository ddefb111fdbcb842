-- Histories: lists of calls and returns (Herlihy and Wing, 1990).
use Rattle.std.specs.Prelude.{◌≡◌, ℕ, ◌+◌, ◌<◌, ◌==◌, nat_lt, if◌then◌else◌, Bool, List, [], ◌∷◌, length, take, Some, slice_get, get_or}
use Rattle.lu_machine.specs.declared.event.Event.{Event}
use Rattle.lu_machine.specs.declared.event.Event.TheVariants.{Call, Return}
use Rattle.lu_machine.specs.declared.event.Outcome.{Outcome}
use Rattle.lu_history.specs.declared.operation.OpId.{OpId}

-- position i of the history is the call of the operation
abbrev pub IsCallAt : List Event → ℕ → OpId → Type 0
IsCallAt h i a = slice_get h i ≡ Some (Call a.t a.k)

-- position i of the history is the return of the operation
abbrev pub IsReturnAt : List Event → ℕ → OpId → Type 0
IsReturnAt h i a = (outcome : Outcome) × (slice_get h i ≡ Some (Return a.t a.k outcome))

-- a returns before b is called
abbrev pub Precedes : List Event → OpId → OpId → Type 0
Precedes h a b = (i j : ℕ) × (i < j) × IsReturnAt h i a × IsCallAt h j b

-- called, and not returned
abbrev pub IsPending : List Event → OpId → Type 0
IsPending h a = ((i : ℕ) × IsCallAt h i a) × ((i : ℕ) → IsReturnAt h i a → ⊥)

-- some operation of thread t is pending
abbrev pub HasPending : ℕ → List Event → Type 0
HasPending t h = (k : ℕ) × IsPending h (record { t = t; k = k })

-- the number of calls of thread t
abbrev pub calls : ℕ → List Event → ℕ
calls t [] = 0
calls t (Call u k ∷ h) = if u == t then calls t h + 1 else calls t h
calls t (Return u k outcome ∷ h) = calls t h

-- how the operations of thread t returned, in order
abbrev pub outcomes : ℕ → List Event → List Outcome
outcomes t [] = []
outcomes t (Call u k ∷ h) = outcomes t h
outcomes t (Return u k outcome ∷ h) = if u == t then outcome ∷ outcomes t h else outcomes t h

-- thread t has more calls than returns
abbrev pub pending : ℕ → List Event → Bool
pending t h = nat_lt (length (outcomes t h)) (calls t h)

-- the event is the next call of a thread without a pending one, or the return of its pending one
abbrev pub Fits : List Event → Event → Type 0
Fits h (Call t k) = (t < 8) × (k < 8) × (calls t h ≡ k) × (length (outcomes t h) ≡ k)
Fits h (Return t k outcome) = (t < 8) × (k < 8) × (calls t h ≡ k + 1) × (length (outcomes t h) ≡ k)

-- each event fits those before it
abbrev pub IsWellFormed : List Event → Type 0
IsWellFormed h = (i : ℕ) (e : Event) → slice_get h i ≡ Some e → Fits (take i h) e

-- how many operations of each thread return before the call of b
abbrev pub AreBefore : List Event → OpId → List ℕ → Type 0
AreBefore h b counts =
    (j u : ℕ) → IsCallAt h j b → get_or counts u 0 ≡ length (outcomes u (take j h))

-- the thread of an event
abbrev pub thread_of : Event → ℕ
thread_of (Call t k) = t
thread_of (Return t k outcome) = t
