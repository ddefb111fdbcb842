-- How a thread is changed where it stands, and put back.
use Rattle.std.specs.Prelude.{◌≡◌, ◌≤◌, ℕ, Bool, true, false, Option, Some, None, slice_get, slice_set}
use Rattle.lu_component.specs.Component.{IsRegister}
use Rattle.lu_machine.specs.declared.event.Event.{Event}
use Rattle.lu_machine.specs.declared.event.Event.TheVariants.{Call as Called, Return as Returned}
use Rattle.lu_machine.specs.declared.thread.Activity.{Activity}
use Rattle.lu_machine.specs.declared.thread.Activity.TheVariants.{Idle, Open}
use Rattle.lu_machine.specs.declared.thread.Change.{Change}
use Rattle.lu_machine.specs.declared.thread.Change.TheVariants.{GoesTo, Sets, Ends as Finishes}
use Rattle.lu_machine.specs.declared.thread.Frame.{Frame}
use Rattle.lu_machine.specs.declared.thread.Thread.{Thread}
use Rattle.lu_machine.specs.declared.thread.OperationBefore.{OperationBefore}
use Rattle.lu_machine.specs.Effects.{Effect, onward_at}
use Rattle.lu_machine.specs.Effects.Effect.{Ends}
use Rattle.lu_machine.specs.States.{State, with_standing}
use Rattle.lu_machine.specs.Steps.{event_after, thread_after}

-- what a change makes of the operation f
abbrev pub effect_of : Frame → Change → Effect
effect_of f (GoesTo place) = onward_at f place
effect_of f (Sets place r n) = onward_at (record f { registers = slice_set f.registers r n }) place
effect_of f (Finishes outcome) = Ends outcome

-- the place is one of code or right after, and what is set is a register
abbrev pub IsChange : Change → Type 0
IsChange (GoesTo place) = place ≤ 64
IsChange (Sets place r n) = (place ≤ 64) × IsRegister r
IsChange (Finishes outcome) = Unit {0}

-- a thread that is idle, after this many operations
abbrev pub idle : ℕ → Thread
idle done = record { done = done; activity = Idle }

-- a thread whose operation f is open, after this many others
abbrev pub at_work : ℕ → Frame → Thread
at_work done f = record { done = done; activity = Open f }

-- thread t has an operation open, after this many others
abbrev pub IsAtWork : State → ℕ → ℕ → Type 0
IsAtWork s t done = (f : Frame) × (slice_get s.threads t ≡ Some (at_work done f))

-- the operation that was open, with all its registers
abbrev pub whole_frame : OperationBefore → Frame
whole_frame was = record { registers = was.registers; op = was.op; place = was.place }

-- the operation that was open, from what it has become: whole, or with its place and one register
-- put back
abbrev pub frame_before : Bool → OperationBefore → Frame → Frame
frame_before true was f = whole_frame was
frame_before false was f =
    record f { place = was.place; registers = slice_set f.registers was.register was.value }

-- what a thread was at whose operation went on
abbrev pub activity_before : Bool → OperationBefore → Activity → Activity
activity_before whole was Idle = Idle
activity_before whole was (Open f) = Open (frame_before whole was f)

-- Where a thread stood before a move with this event or none, from where it stands after it: an
-- operation that was called is not open, one that returned is open again, and one that went on goes
-- back.
abbrev pub before : Bool → Option Event → OperationBefore → Thread → Thread
before whole (Some (Called t k)) was now = record now { activity = Idle }
before whole (Some (Returned t k outcome)) was now = at_work k (whole_frame was)
before whole None was now = record now { activity = activity_before whole was now.activity }

-- this is the event, or none, of the change of operation number `done` of thread t
abbrev pub IsEventOf : ℕ → ℕ → Change → Option Event → Type 0
IsEventOf t done change event = (f : Frame) → event ≡ event_after t done (effect_of f change)

-- what was kept puts back where a thread stood whose operation was changed: whole where all
-- registers were kept
abbrev pub PutsBack : Bool → Thread → Change → OperationBefore → Thread → Type 0
PutsBack kept standing change was now =
    (f : Frame) → standing.activity ≡ Open f → (t : ℕ) (whole : Bool) → (whole ≡ true → kept ≡ true)
    → before whole (event_after t standing.done (effect_of f change)) was now ≡ standing

-- where a thread stands after the change, which stood so with an open operation
abbrev pub IsThreadAfter : Thread → Change → Thread → Type 0
IsThreadAfter standing change now =
    (f : Frame) → standing.activity ≡ Open f → now ≡ thread_after standing.done (effect_of f change)

-- thread t stood so in s; it is changed in `new`, and `was` tells how to put it back
pub record IsChanged (s : State) (t : ℕ) (standing : Thread) (change : Change) (kept : Bool)
    (new : State) (was : OperationBefore) : Type 0 where
  pub now : Thread
  pub moved : new ≡ with_standing s t now
  pub after : IsThreadAfter standing change now
  pub back : PutsBack kept standing change was now
  pub register : IsRegister was.register

-- thread t of s, if there is one, is changed in `new`, and `was` tells how to put it back
abbrev pub ChangesThread : State → ℕ → Change → Bool → State → OperationBefore → Type 0
ChangesThread s t change kept new was =
    (standing : Thread) → slice_get s.threads t ≡ Some standing
    → IsChanged s t standing change kept new was
