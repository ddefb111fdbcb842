-- Histories with less precedence.
use Rattle.std.specs.Prelude.{◌≡◌, ◌≢◌, ◌==◌, ℕ, zero, suc, List, ◌∷◌, ◌++◌, filter, length}
use Rattle.lu_component.specs.Component.{Component}
use Rattle.lu_test.specs.declared.schedule.Move.{Move}
use Rattle.lu_test.specs.Matrix.{Matrix}
use Rattle.lu_machine.specs.declared.event.Event.{Event}
use Rattle.lu_machine.specs.declared.event.Event.TheVariants.{Call, Return}
use Rattle.lu_machine.specs.Plays.{Plays}
use Rattle.lu_machine.specs.States.{State}
use Rattle.lu_history.specs.declared.operation.OpId.{OpId}
use Rattle.lu_history.specs.Histories.{IsWellFormed, Precedes, thread_of}
use Rattle.lu_recorded.specs.declared.recorded.Recorded.{Recorded}
use Rattle.lu_conform.specs.Showing.{IsShownBy}

-- Two events of different threads, of which the first is no call with a return after it: in the
-- other order nothing precedes that did not before (Herlihy and Wing, 1990).
abbrev pub MayStretch : Event → Event → Type 0
MayStretch (Call t k) (Call u l) = t ≢ u
MayStretch (Call t k) (Return u l outcome) = ⊥
MayStretch (Return t k outcome) (Call u l) = t ≢ u
MayStretch (Return t k outcome) (Return u l other) = t ≢ u

-- two such events that stand beside one another were exchanged
pub record IsStretchedOnce (h k : List Event) : Type 0 where
  pub front : List Event
  pub back : List Event
  pub first : Event
  pub second : Event
  pub may : MayStretch first second
  pub before : h ≡ front ++ first ∷ second ∷ back
  pub after : k ≡ front ++ second ∷ first ∷ back

-- by this many such changes, one after the other
abbrev pub IsStretchedBy : ℕ → List Event → List Event → Type 0
IsStretchedBy zero h k = h ≡ k
IsStretchedBy (suc n) h k = (g : List Event) × IsStretchedOnce h g × IsStretchedBy n g k

-- Where a schedule leads to a state with a history, one with as many moves leads there with each
-- history that is stretched from it.
abbrev pub StretchedIsPlayed : Type 0
StretchedIsPlayed =
    (c : Component) (matrix : Matrix) (u : List Move) (end : State) (h k : List Event) (n : ℕ) →
    Plays c matrix u end h → IsStretchedBy n h k
    → (v : List Move) × (length v ≡ length u) × Plays c matrix v end k

-- the events of thread t, in order
abbrev pub events_of : ℕ → List Event → List Event
events_of t h = filter (λ e. thread_of e == t) h

-- k has the same events of each thread in the same order, and what precedes in it precedes in h
pub record HasLessPrecedence (h k : List Event) : Type 0 where
  pub threads : (t : ℕ) → events_of t h ≡ events_of t k
  pub precedes : (a b : OpId) → Precedes k a b → Precedes h a b

-- So k comes about by such changes.
abbrev pub LessIsStretched : Type 0
LessIsStretched =
    (h k : List Event) → IsWellFormed h → IsWellFormed k → HasLessPrecedence h k
    → (n : ℕ) × IsStretchedBy n h k

-- So where a schedule shows a recorded history, one with as many moves shows each with less
-- precedence.
abbrev pub LessIsShown : Type 0
LessIsShown =
    (c : Component) (matrix : Matrix) (recorded : Recorded) (u : List Move) (k : List Event)
    → IsShownBy c matrix recorded u → IsWellFormed recorded.history → IsWellFormed k
    → HasLessPrecedence recorded.history k
    → (v : List Move) × (length v ≡ length u)
    × IsShownBy c matrix (record recorded { history = k }) v
