-- Schedules in which a thread goes first whose move comes out the same before what the others do.
use Rattle.std.specs.Prelude.{◌≡◌, ℕ, ◌<◌, Bool, true, List, [], ◌∷◌, length, Option, Some, slice_get}
use Rattle.lu_component.specs.Component.{Component}
use Rattle.lu_component.specs.declared.instr.Instr.{Instr}
use Rattle.lu_component.specs.declared.instr.Instr.TheVariants.{Load, Store, Cas, Unlock}
use Rattle.lu_test.specs.declared.schedule.Move.{Move}
use Rattle.lu_test.specs.Matrix.{Matrix}
use Rattle.lu_machine.specs.declared.event.Event.{Event}
use Rattle.lu_machine.specs.declared.thread.Activity.TheVariants.{Open}
use Rattle.lu_machine.specs.declared.thread.Frame.{Frame}
use Rattle.lu_machine.specs.Ends.{IsEnded}
use Rattle.lu_machine.specs.Runs.{Leads}
use Rattle.lu_machine.specs.Starts.{IsStart}
use Rattle.lu_machine.specs.States.{State, current_instr}
use Rattle.lu_machine.specs.Steps.{Step}
use Rattle.lu_horizon.specs.Stands.{is_unseen}
use Rattle.lu_tree.specs.Reordered.{AreReordered}
use Rattle.lu_graph.specs.Guards.{IsGuarded, TellsGuarded}

-- The instruction stands aside: it is never blocked, and it and what other threads do before it
-- come out the same in the other order. No other thread sees it; or it is an `unlock`: while its
-- thread owns the lock, `lock` of another thread is blocked, and `unlock` traps; where its thread
-- does not own it, it traps itself; or it is an access, other than a wait, to an array that a lock
-- guards: no other thread is at one.
abbrev pub StandsAside : Component → Instr → Type 0
StandsAside c (Load to w i) = IsGuarded c w
StandsAside c (Store w i v) = IsGuarded c w
StandsAside c (Cas to w i expected desired) = IsGuarded c w
StandsAside c (Unlock l) = Unit {0}
StandsAside c instr = is_unseen instr ≡ true

-- thread t is at such an instruction
pub record IsAside (s : State) (t : ℕ) : Type 0 where
  pub done : ℕ
  pub frame : Frame
  pub stands : slice_get s.threads t ≡ Some (record { done = done; activity = Open frame })
  pub instr : Instr
  pub at : current_instr s frame ≡ Some instr
  pub aside : StandsAside s.component instr

-- and no thread before it is
pub record IsFirstAside (s : State) (t : ℕ) : Type 0 where
  pub aside : IsAside s t
  pub first : (u : ℕ) → u < t → IsAside s u → ⊥

-- The move goes first in s: where threads are at such instructions, the first of them makes it.
abbrev pub GoesFirst : State → Move → Type 0
GoesFirst s m = (t : ℕ) → IsFirstAside s t → m.thread ≡ t

-- each move of the schedule goes first where it is made
abbrev pub AllGoFirst : State → List Move → Type 0
AllGoFirst s [] = Unit {0}
AllGoFirst s (m ∷ u) =
    GoesFirst s m
    × ((next : State) (event : Option Event) → Step s m next event → AllGoFirst next u)

-- A schedule of this many moves that all go first leads to this state, with a history that is this
-- one in another order, which has no less precedence.
pub record LeadsFirst (s : State) (moves : ℕ) (end : State) (history : List Event) : Type 0 where
  pub schedule : List Move
  pub first : AllGoFirst s schedule
  pub long : length schedule ≡ moves
  pub before : List Event
  pub leads : Leads s schedule end before
  pub reordered : AreReordered before history

-- From each start, each ended schedule has one as long whose moves all go first, and which ends in
-- the same state.
abbrev pub FirstTellsAll : Type 0
FirstTellsAll =
    (c : Component) (matrix : Matrix) (guarded : List Bool) (s : State) → TellsGuarded c guarded
    → IsStart c matrix s → (u : List Move) (end : State) (history : List Event)
    → Leads s u end history → IsEnded end → LeadsFirst s (length u) end history
