-- The continuations of a prefix of serial histories.
use Rattle.std.specs.Prelude.{◌≡◌, ◌↔◌, ℕ, ◌+◌, Bool, true, false, List, [], ◌∷◌, ◌++◌}
use Rattle.lu_component.specs.Component.{Component}
use Rattle.lu_test.specs.declared.schedule.Move.{Move}
use Rattle.lu_test.specs.Matrix.{Matrix}
use Rattle.lu_machine.specs.declared.position.Position.{Position}
use Rattle.lu_machine.specs.States.{State}
use Rattle.lu_history.specs.declared.serial.SerialOp.{SerialOp}
use Rattle.lu_history.specs.declared.serial.SerialOutcome.{SerialOutcome}
use Rattle.lu_history.specs.declared.serial.SerialOutcome.TheVariants.{Stuck}
use Rattle.lu_trie.specs.Members.{contains}
use Rattle.lu_serial.specs.Serial.{IsSerialHistory, SerialRun, entries_of, stuck_of}
use Rattle.lu_serial.specs.Whole.{IsQuiet}
use Rattle.lu_serial_graph.specs.Playing.{Comes, IsAmong, Lasts, state_at}
use Rattle.lu_serial_graph.specs.Answers.{HasRest}

-- a serial schedule with the entries q leads from s to the state `end`, with no operation open
abbrev pub StateAfter : State → List SerialOp → State → Type 0
StateAfter s q end =
    (u : List Move)
    × SerialRun s u (λ here history. IsQuiet here × (q ≡ entries_of history) × (here ≡ end))

-- These are all rests after the entries q.
pub record AreRestsAfter (c : Component) (matrix : Matrix) (s : State) (q : List SerialOp)
    (rests : List Position) : Type 0 where
  pub each : (p : Position) → IsAmong p rests → StateAfter s q (state_at c matrix p)
  pub all : (end : State) → StateAfter s q end → HasRest c matrix rests end
  pub some : (p : Position) × IsAmong p rests

-- The last of the entries q is that of a blocked call.
pub record IsStuckAfter (s : State) (q : List SerialOp) : Type 0 where
  pub before : List SerialOp
  pub thread : ℕ
  pub parts : q ≡ before ++ stuck_of thread ∷ []
  pub mid : State
  pub after : StateAfter s before mid
  pub end : State
  pub comes : Comes mid thread Stuck end

-- the entries q end stuck, or these are the rests after them
abbrev pub LeadsTo : Component → Matrix → State → List SerialOp → Bool → List Position → Type 0
LeadsTo c matrix s q true rests = IsStuckAfter s q
LeadsTo c matrix s q false rests = AreRestsAfter c matrix s q rests

-- After the entries q, no call takes more moves than the bound, and each has one outcome.
pub record IsFine (s : State) (bound : ℕ) (q : List SerialOp) : Type 0 where
  pub short : (mid : State) (t : ℕ) → StateAfter s q mid → Lasts mid t (bound + 1) → ⊥
  pub one : (mid other : State) (t : ℕ) (a b : SerialOutcome) (end last : State)
      → StateAfter s q mid → StateAfter s q other → Comes mid t a end → Comes other t b last
      → a ≡ b

-- The members are the continuations of q in serial histories, and no call after them offends.
pub record AreContinuations (s : State) (bound : ℕ) (q : List SerialOp)
    (members : List (List SerialOp)) : Type 0 where
  pub are : (w : List SerialOp) → (contains members w ≡ true) ↔ IsSerialHistory s (q ++ w)
  pub fine : (w : List SerialOp) → IsFine s bound (q ++ w)
