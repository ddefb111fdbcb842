-- What a call answers from the rests of one state of the automaton.
use Rattle.std.specs.Prelude.{◌≡◌, ◌≢◌, ◌↔◌, ◌⊎◌, ℕ, ◌<◌, List, [], ◌∷◌, length, replicate, Option, Some, None}
use Rattle.lu_component.specs.Component.{Component}
use Rattle.lu_test.specs.declared.matrix.Call.{Call as ACall}
use Rattle.lu_test.specs.Matrix.{Matrix, matrix_with}
use Rattle.lu_machine.specs.declared.position.Position.{Position}
use Rattle.lu_machine.specs.declared.thread.Thread.{Thread}
use Rattle.lu_machine.specs.declared.thread.Activity.TheVariants.{Idle}
use Rattle.lu_machine.specs.Positions.{CanStandAt}
use Rattle.lu_history.specs.declared.serial.SerialOutcome.{SerialOutcome}
use Rattle.lu_client.specs.Alone.{Answers, Blocks, Overruns, Plays, Rest}
use Rattle.lu_serial_graph.specs.Playing.{IsAmong}
use Rattle.lu_run.specs.declared.asking.Reply.{Reply}
use Rattle.lu_run.specs.declared.asking.Reply.TheVariants.{Ends, Blocked}

-- the matrix in which each of eight threads makes this call
abbrev pub menu_of : ACall → Matrix
menu_of call = matrix_with [] (replicate 8 (call ∷ []))

-- a thread that has made no call
abbrev pub at_start : Thread
at_start = record { done = 0; activity = Idle }

-- the cells and locks of the position
abbrev pub rest_at : Position → Rest
rest_at p = record { cells = p.cells.items; locks = p.locks.items }

-- The position is at rest, with eight threads, and a machine can stand there whatever is called.
pub record IsAtRest (c : Component) (p : Position) : Type 0 where
  pub threads : p.threads.items ≡ replicate 8 at_start
  pub stands : (call : ACall) → CanStandAt c (menu_of call) p

-- The positions of a state of the automaton: there is one, and each is at rest.
pub record AreRests (c : Component) (positions : List Position) : Type 0 where
  pub some : 0 < length positions
  pub each : (p : Position) → IsAmong p positions → IsAtRest c p

-- the rest is that of some position
abbrev pub HasRest : List Position → Rest → Type 0
HasRest positions rest = (p : Position) × IsAmong p positions × (rest_at p ≡ rest)

-- both lists have the same rests
abbrev pub HasSameRests : List Position → List Position → Type 0
HasSameRests positions others = (rest : Rest) → HasRest positions rest ↔ HasRest others rest

-- From some of these positions, the call of thread t ends with this outcome, and leaves this rest.
abbrev pub PlaysFromSome : Component → List Position → ℕ → ACall → SerialOutcome → Rest → Type 0
PlaysFromSome c positions t call outcome after =
    (rest : Rest) × HasRest positions rest × Plays c rest t call outcome after

-- from some of these positions, the call of thread t blocks
abbrev pub BlocksFromSome : Component → List Position → ℕ → ACall → Type 0
BlocksFromSome c positions t call = (rest : Rest) × HasRest positions rest × Blocks c rest t call

-- From each of the positions the call of thread t ends with this outcome, and the new positions have
-- exactly the rests that it leaves.
pub record EndsSo (c : Component) (positions : List Position) (t : ℕ) (call : ACall)
    (outcome : SerialOutcome) (new : List Position) : Type 0 where
  pub exact : (o : SerialOutcome) (after : Rest)
      → PlaysFromSome c positions t call o after ↔ ((o ≡ outcome) × HasRest new after)
  pub never_blocks : BlocksFromSome c positions t call → ⊥
  pub rests : AreRests c new

-- From each of the positions the call of thread t blocks.
pub record BlocksSo (c : Component) (positions : List Position) (t : ℕ) (call : ACall)
    : Type 0 where
  pub blocks : BlocksFromSome c positions t call
  pub never_ends : (o : SerialOutcome) (after : Rest)
      → PlaysFromSome c positions t call o after → ⊥

-- From two of the positions the call of thread t has different outcomes.
pub record HasTwoOutcomes (c : Component) (positions : List Position) (t : ℕ) (call : ACall)
    : Type 0 where
  pub rest : Rest
  pub other : Rest
  pub a : SerialOutcome
  pub b : SerialOutcome
  pub first : HasRest positions rest
  pub second : HasRest positions other
  pub answers : Answers c rest t call a
  pub also : Answers c other t call b
  pub apart : a ≢ b

-- from some of the positions the call of thread t takes more moves than the bound
abbrev pub OverrunsFromSome : Component → List Position → ℕ → ACall → ℕ → Type 0
OverrunsFromSome c positions t call bound =
    (rest : Rest) × HasRest positions rest × Overruns c bound rest t call

-- what the call of thread t answers from the positions; none where it takes more moves than the
-- bound from some of them, or has two outcomes
abbrev pub IsReply : Component → List Position → ℕ → ACall → ℕ → Option Reply → Type 0
IsReply c positions t call bound (Some (Ends outcome new)) =
    EndsSo c positions t call outcome new.items
IsReply c positions t call bound (Some Blocked) = BlocksSo c positions t call
IsReply c positions t call bound None =
    OverrunsFromSome c positions t call bound ⊎ HasTwoOutcomes c positions t call
