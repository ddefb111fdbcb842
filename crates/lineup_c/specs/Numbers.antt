-- States and events as numbers.
use Rattle.std.specs.Prelude.{◌≡◌, ℕ, zero, suc, ◌+◌, ◌-◌, ◌^◌, List, [], ◌∷◌, ◌++◌, length, Option, Some, None, Result, IfOk, OnOk, Vec, min, slice_get}
use Rattle.std.specs.Option.{option_map_or}
use Rattle.lu_component.specs.declared.instr.Operand.TheVariants.{Reg}
use Rattle.lu_component.specs.Component.{Component}
use Rattle.lu_machine.specs.declared.event.Event.{Event}
use Rattle.lu_machine.specs.declared.event.Event.TheVariants.{Call, Return}
use Rattle.lu_machine.specs.declared.event.Outcome.TheVariants.{Ret, Trap}
use Rattle.lu_machine.specs.declared.event.Status.{Status}
use Rattle.lu_machine.specs.declared.event.Status.TheVariants.{Running, Complete, Stuck}
use Rattle.lu_machine.specs.declared.thread.Activity.{Activity}
use Rattle.lu_machine.specs.declared.thread.Activity.TheVariants.{Idle, Open}
use Rattle.lu_machine.specs.declared.thread.Frame.{Frame}
use Rattle.lu_machine.specs.declared.thread.Thread.{Thread}
use Rattle.lu_machine.specs.Effects.{value_of}
use Rattle.lu_machine.specs.States.{State, cell_of, owner_of, value_at}
use Rattle.lu_machine.specs.Steps.{picks_of}

-- where it succeeds the numbers grow by these
abbrev pub Adds : {T E Z : Type 0} → Result T E → Vec ℕ Z → Vec ℕ Z → List ℕ → Type 0
Adds result old new more = OnOk result (new.items ≡ old.items ++ more)

-- ---- threads

-- the first n registers of an open operation
abbrev pub registers : Frame → ℕ → List ℕ
registers f zero = []
registers f (suc n) = registers f n ++ value_of f (Reg n) ∷ []

abbrev pub zeros : ℕ → List ℕ
zeros zero = []
zeros (suc n) = zeros n ++ 0 ∷ []

-- the operation's number from 1, the place of its next instruction, and its registers; zeros where
-- none is open
abbrev pub activity_numbers : Activity → List ℕ
activity_numbers Idle = zeros 10
activity_numbers (Open f) = (f.op + 1) ∷ f.place ∷ registers f 8

-- how many operations have ended, and which is open
abbrev pub standing_numbers : Thread → List ℕ
standing_numbers thread = thread.done ∷ activity_numbers thread.activity

-- how many picks the thread has, and where it stands
abbrev pub thread_numbers : State → ℕ → List ℕ
thread_numbers s t = picks_of s t ∷ option_map_or standing_numbers (slice_get s.threads t) []

-- those of the first n threads
abbrev pub threads_numbers : State → ℕ → List ℕ
threads_numbers s zero = []
threads_numbers s (suc n) = threads_numbers s n ++ thread_numbers s n

-- ---- cells and locks

abbrev pub cell_number : State → ℕ → ℕ → List ℕ
cell_number s w i = option_map_or (λ p. value_at s p ∷ []) (cell_of s.component w i) []

-- the values of the first n cells of array w
abbrev pub cells_numbers : State → ℕ → ℕ → List ℕ
cells_numbers s w zero = []
cells_numbers s w (suc n) = cells_numbers s w n ++ cell_number s w n

-- the number of the cells of array w
abbrev pub cell_count : Component → ℕ → ℕ
cell_count c w = option_map_or (λ array. array.len) (slice_get c.arrays w) 0

-- the values of the cells of the first n arrays
abbrev pub arrays_numbers : State → ℕ → List ℕ
arrays_numbers s zero = []
arrays_numbers s (suc n) = arrays_numbers s n ++ cells_numbers s n (cell_count s.component n)

-- the number of an owner from 1, and 0 for nobody
abbrev pub owner_number : Option ℕ → ℕ
owner_number None = 0
owner_number (Some t) = t + 1

-- the owners of the first n locks
abbrev pub locks_numbers : State → ℕ → List ℕ
locks_numbers s zero = []
locks_numbers s (suc n) = locks_numbers s n ++ owner_number (owner_of s n) ∷ []

abbrev pub all_threads : State → List ℕ
all_threads s = threads_numbers s (length s.threads)

abbrev pub all_arrays : State → List ℕ
all_arrays s = arrays_numbers s (length s.component.arrays)

abbrev pub all_locks : State → List ℕ
all_locks s = locks_numbers s (length s.component.locks)

-- each thread, each cell and each lock
abbrev pub state_numbers : State → List ℕ
state_numbers s = all_threads s ++ all_arrays s ++ all_locks s

-- ---- events

abbrev pub event_numbers : Event → List ℕ
event_numbers (Call t k) = 0 ∷ t ∷ k ∷ 0 ∷ []
event_numbers (Return t k (Ret n)) = 1 ∷ t ∷ k ∷ n ∷ []
event_numbers (Return t k Trap) = 2 ∷ t ∷ k ∷ 0 ∷ []

abbrev pub status_number : Status → ℕ
status_number Running = 0
status_number Complete = 1
status_number Stuck = 2

-- the event at this index, where there is one
abbrev pub event_at : List Event → ℕ → List ℕ
event_at events i = option_map_or event_numbers (slice_get events i) []

-- the first n events
abbrev pub first_events : List Event → ℕ → List ℕ
first_events events zero = []
first_events events (suc n) = first_events events n ++ event_at events n

abbrev pub events_numbers : List Event → List ℕ
events_numbers events = first_events events (length events)

-- ---- the head

-- a number of 32 bits, the greatest for all above
abbrev pub number_of : ℕ → ℕ
number_of n = min n (2 ^ 32 - 1)

-- the number of the cells of the first n arrays
abbrev pub cells_of_first : Component → ℕ → ℕ
cells_of_first c zero = 0
cells_of_first c (suc n) = min (cells_of_first c n + cell_count c n) (2 ^ 32 - 1)

abbrev pub shape : State → Status → ℕ → ℕ → List ℕ
shape s status made all =
    status_number status ∷ made ∷ all ∷ length s.threads
    ∷ cells_of_first s.component (length s.component.arrays) ∷ length s.component.locks ∷ []

-- the head, the state, and the events that led to it
abbrev pub run_numbers : State → Status → ℕ → ℕ → List Event → List ℕ
run_numbers s status made all events =
    shape s status made all ++ state_numbers s ++ events_numbers events

abbrev pub TellsRun : {E Z : Type 0} → State → Status → ℕ → ℕ → List Event → Result (Vec ℕ Z) E
    → Type 0
TellsRun s status made all events result =
    IfOk result (λ numbers. numbers.items ≡ run_numbers s status made all events)
