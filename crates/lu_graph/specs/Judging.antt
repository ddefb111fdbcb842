-- How an ended state is judged, by the members that are alive.
use Rattle.std.specs.Prelude.{◌≡◌, ◌↔◌, ℕ, ◌+◌, ◌≤◌, ◌==◌, if◌then◌else◌, Bool, true, IsTrue, List, length, Option, Some, None, MatchOption, slice_get}
use Rattle.std.specs.Global.{Vec}
use Rattle.std.specs.List.{slice_index}
use Rattle.lu_machine.specs.declared.event.Event.{Event}
use Rattle.lu_machine.specs.States.{State, progress}
use Rattle.lu_history.specs.declared.serial.SerialOp.{SerialOp}
use Rattle.lu_history.specs.declared.serial.SerialOutcome.TheVariants.{Stuck}
use Rattle.lu_history.specs.Histories.{IsWellFormed, calls}
use Rattle.lu_history.specs.Standing.{Agree, standing_of}
use Rattle.lu_witness.specs.Witnesses.{IsEntryAt, entries}
use Rattle.lu_graph.specs.declared.possibilities.ReturnAt.{ReturnAt}
use Rattle.lu_graph.specs.Alive.{Admits, ArePossible}
use Rattle.lu_graph.specs.Nodes.{TellsGood, longer}

-- how many operations of thread u have ended
abbrev pub ended : State → ℕ → ℕ
ended s u = (standing_of (progress s) u).0

-- whether one more is open
abbrev pub is_waiting : State → ℕ → Bool
is_waiting s u = (standing_of (progress s) u).1

-- how many are called
abbrev pub called : State → ℕ → ℕ
called s u = ended s u + (if is_waiting s u then 1 else 0)

-- how many can stand in a witness: those that ended, and of the thread that waits, if any, those
-- that are called
abbrev pub room : State → Option ℕ → ℕ → ℕ
room s None u = ended s u
room s (Some t) u = if t == u then called s u else ended s u

-- of each thread it has no more than that; and the one that waits is stuck
pub record IsWhole (s : State) (waiting : Option ℕ) (q : List SerialOp) : Type 0 where
  pub few : (u : ℕ) → length (entries u q) ≤ room s waiting u
  pub waits : MatchOption waiting (Unit {0})
      (λ t. slice_get (entries t q) (ended s t) ≡ Some Stuck)

-- it is one of the members
abbrev pub IsOneOf : List (Vec SerialOp) → List SerialOp → Type 0
IsOneOf members q = (i : ℕ) × (v : Vec SerialOp) × (slice_get members i ≡ Some v) × (v.items ≡ q)

-- some member is alive, and whole
abbrev pub HasWhole : State → Option ℕ → List (Vec SerialOp) → List Bool → Type 0
HasWhole s waiting members alive =
    (i : ℕ) × (q : Vec SerialOp) × (slice_get members i ≡ Some q) × (slice_get alive i ≡ Some true)
    × IsWhole s waiting q.items

-- for each thread that waits some member is
abbrev pub AllHaveWhole : State → List (Vec SerialOp) → List Bool → Type 0
AllHaveWhole s members alive =
    (t : ℕ) → is_waiting s t ≡ true → HasWhole s (Some t) members alive

-- the position of entry number `number` of thread t; none where it has no such entry
abbrev pub FindsEntry : List SerialOp → ℕ → ℕ → Option ℕ → Type 0
FindsEntry q t number None = length (entries t q) ≤ number
FindsEntry q t number (Some position) = IsEntryAt q position (record { t = t; k = number })

-- of each thread there are no more than this many
abbrev pub AreCalled : List ℕ → List SerialOp → Type 0
AreCalled called front = (u : ℕ) → length (entries u front) ≤ slice_index called u

-- this many operations of each thread are called in the history
abbrev pub HasCalls : List ℕ → List Event → Type 0
HasCalls called h = (u : ℕ) → calls u h ≡ slice_index called u

-- whether q stays possible after the return, of each history with its calls
abbrev pub TellsAdmits : List SerialOp → ReturnAt → Bool → Type 0
TellsAdmits q at answer =
    (h : List Event) → HasCalls at.calls h → IsTrue answer ↔ Admits q h at.operation at.outcome

-- whether it stays possible, if it was
abbrev pub TellsStays : List SerialOp → ReturnAt → Bool → Bool → Type 0
TellsStays q at was answer =
    (h : List Event) → HasCalls at.calls h
    → IsTrue answer ↔ (IsTrue was × Admits q h at.operation at.outcome)

-- the thread's operation after those that ended in s is stuck in q
abbrev pub IsStuckIn : State → List SerialOp → ℕ → Type 0
IsStuckIn s q thread = slice_get (entries thread q) (ended s thread) ≡ Some Stuck

-- which members stay possible after the return
abbrev pub Stay : List (Vec SerialOp) → ReturnAt → List Bool → List Bool → Type 0
Stay members at old new =
    (i : ℕ) (q : Vec SerialOp) (b c : Bool) → slice_get members i ≡ Some q
    → slice_get old i ≡ Some b → slice_get new i ≡ Some c
    → TellsStays q.items at b c

pub record StayPossible (members : List (Vec SerialOp)) (at : ReturnAt) (old new : List Bool)
    : Type 0 where
  pub many : length new ≡ length members
  pub stay : Stay members at old new

-- so it is of what stands in the vector
abbrev pub StayPossibleIn : List (Vec SerialOp) → ReturnAt → List Bool → Vec Bool → Type 0
StayPossibleIn members at old new = StayPossible members at old new.items

-- what is said after one event more, or none, of each history that leads to s with it
abbrev pub Follows : List (Vec SerialOp) → State → List Bool → Option Event → List Bool → Type 0
Follows members s old event new =
    (h : List Event) → Agree (progress s) (longer h event) → ArePossible members h old
    → ArePossible members (longer h event) new

-- whether an ended state is good, of each history that may have led there, of which this is said
abbrev pub JudgesGood : List (Vec SerialOp) → State → List Bool → Bool → Type 0
JudgesGood members s alive good =
    (h : List Event) → IsWellFormed h → Agree (progress s) h → ArePossible members h alive
    → TellsGood (IsOneOf members) s h good
