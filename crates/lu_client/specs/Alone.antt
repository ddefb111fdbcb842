-- Calls made alone, and the states at rest between them: the automaton of the serial histories.
use Rattle.std.specs.Prelude.{◌≡◌, ◌⊎◌, ℕ, List, [], ◌∷◌, ◌++◌, length, replicate, Option, Some, slice_get}
use Rattle.lu_component.specs.Component.{Component}
use Rattle.lu_test.specs.declared.matrix.Call.{Call}
use Rattle.lu_test.specs.declared.schedule.Move.{Move}
use Rattle.lu_test.specs.Matrix.{Matrix, calls_of, matrix_with}
use Rattle.lu_machine.specs.declared.event.Event.{Event}
use Rattle.lu_machine.specs.declared.thread.Thread.{Thread}
use Rattle.lu_machine.specs.declared.thread.Activity.TheVariants.{Idle}
use Rattle.lu_machine.specs.States.{State}
use Rattle.lu_machine.specs.Steps.{IsEnabled, picks_of}
use Rattle.lu_machine.specs.Runs.{Leads}
use Rattle.lu_machine.specs.Starts.{at_rest}
use Rattle.lu_history.specs.declared.serial.SerialOutcome.{SerialOutcome}
use Rattle.lu_history.specs.declared.serial.SerialOutcome.TheVariants.{Stuck}
use Rattle.lu_history.specs.declared.serial.SerialOp.{SerialOp}
use Rattle.lu_serial.specs.Serial.{HasOpen, SerialRun, entries_of}
use Rattle.lu_witness.specs.Witnesses.{entries}
use Rattle.lu_serial.specs.Whole.{IsQuiet}

-- what calls leave behind: cells, and the owner of each lock
pub record Rest : Type 0 where
  pub cells : List ℕ
  pub locks : List (Option ℕ)

abbrev pub rest_of : State → Rest
rest_of s = record { cells = s.cells; locks = s.locks }

-- ---- a call made alone

-- the matrix in which thread t makes this call, and no other is made
abbrev pub one_call : ℕ → Call → Matrix
one_call t call = matrix_with [] (replicate t [] ++ (call ∷ []) ∷ [])

-- before it, at this rest
abbrev pub before_call : Component → Rest → ℕ → Call → State
before_call c rest t call = at_rest c (one_call t call) rest.cells rest.locks

-- The call returns with this outcome, and leaves the rest `after`.
pub record Plays (c : Component) (rest : Rest) (t : ℕ) (call : Call) (outcome : SerialOutcome)
    (after : Rest) : Type 0 where
  pub moves : List Move
  pub end : State
  pub history : List Event
  pub leads : Leads (before_call c rest t call) moves end history
  pub returns : entries_of history ≡ record { thread = t; outcome = outcome } ∷ []
  pub leaves : rest_of end ≡ after

-- n moves after the call it is still open, in the state end
pub record Holds (c : Component) (rest : Rest) (t : ℕ) (call : Call) (n : ℕ)
    (end : State) : Type 0 where
  pub first : Move
  pub moves : List Move
  pub history : List Event
  pub leads : Leads (before_call c rest t call) (first ∷ moves) end history
  pub long : length moves ≡ n
  pub still : HasOpen end t

-- it comes to where its thread is not enabled
abbrev pub Blocks : Component → Rest → ℕ → Call → Type 0
Blocks c rest t call =
    (n : ℕ) × (end : State) × Holds c rest t call n end × (picks_of end t ≡ 0)

-- it has taken as many moves as the bound, and its thread is enabled
abbrev pub Overruns : Component → ℕ → Rest → ℕ → Call → Type 0
Overruns c bound rest t call =
    (end : State) × Holds c rest t call bound end × IsEnabled end t

-- it returns with this outcome, or blocks, and the outcome is `Stuck`
abbrev pub Answers : Component → Rest → ℕ → Call → SerialOutcome → Type 0
Answers c rest t call outcome =
    ((after : Rest) × Plays c rest t call outcome after)
    ⊎ ((outcome ≡ Stuck) × Blocks c rest t call)

-- ---- from a state

-- each of these moves is of thread t
abbrev pub AllBy : ℕ → List Move → Type 0
AllBy t [] = Unit {0}
AllBy t (m ∷ u) = (m.thread ≡ t) × AllBy t u

-- no operation is open in s, and this is thread t's next call
pub record IsBefore (s : State) (t : ℕ) (call : Call) : Type 0 where
  pub quiet : IsQuiet s
  pub was : Thread
  pub stands : slice_get s.threads t ≡ Some was
  pub idle : was.activity ≡ Idle
  pub next : slice_get (calls_of s.matrix t) was.done ≡ Some call

-- thread t makes its next call alone: it returns with this outcome, and leaves the rest `after`
pub record PlaysFrom (s : State) (t : ℕ) (outcome : SerialOutcome) (after : Rest) : Type 0 where
  pub moves : List Move
  pub by : AllBy t moves
  pub end : State
  pub history : List Event
  pub leads : Leads s moves end history
  pub quiet : IsQuiet end
  pub returns : entries_of history ≡ record { thread = t; outcome = outcome } ∷ []
  pub leaves : rest_of end ≡ after

-- or n moves after the call it is still open, and its thread has this many picks
pub record HoldsFrom (s : State) (t n picks : ℕ) : Type 0 where
  pub first : Move
  pub moves : List Move
  pub by : AllBy t (first ∷ moves)
  pub end : State
  pub history : List Event
  pub leads : Leads s (first ∷ moves) end history
  pub long : length moves ≡ n
  pub still : HasOpen end t
  pub returns : entries_of history ≡ []
  pub picks_are : picks_of end t ≡ picks

-- ---- one after another

-- a serial schedule with these entries, after which no operation is open, leads from s to this rest
abbrev pub RestAfter : State → List SerialOp → Rest → Type 0
RestAfter s q rest =
    (u : List Move)
    × SerialRun s u (λ end history. IsQuiet end × (q ≡ entries_of history) × (rest_of end ≡ rest))

-- thread t's next call after these entries
abbrev pub IsNextCall : Matrix → List SerialOp → ℕ → Call → Type 0
IsNextCall matrix q t call = slice_get (calls_of matrix t) (length (entries t q)) ≡ Some call

-- From each rest after any entries, each next call takes no more moves than the bound; and from all
-- rests after the same entries it has one outcome.
pub record HasOneOutcome (c : Component) (matrix : Matrix) (s : State) (bound : ℕ) : Type 0 where
  pub short : (q : List SerialOp) (rest : Rest) (t : ℕ) (call : Call) → RestAfter s q rest
      → IsNextCall matrix q t call → Overruns c bound rest t call → ⊥
  pub one : (q : List SerialOp) (rest other : Rest) (t : ℕ) (call : Call) (a b : SerialOutcome)
      → RestAfter s q rest → RestAfter s q other → IsNextCall matrix q t call
      → Answers c rest t call a → Answers c other t call b → a ≡ b
