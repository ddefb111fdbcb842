-- What a run starts on: all of its start but the matrix.
use Rattle.std.proofs.Common.{arith, ◌≡◌, ◌<◌, ℕ, List, length, Option}
use Rattle.std.proofs.lemmas.List.{length-replicate}
use Rattle.lu_test.proofs.FewerCalls.{is_thread}
use Rattle.lu_component.specs.Component.{Component}
use Rattle.lu_test.specs.Matrix.{Matrix}
use Rattle.lu_machine.specs.declared.thread.Activity.TheVariants.{Idle}
use Rattle.lu_machine.specs.declared.thread.Thread.{Thread}
use Rattle.lu_machine.specs.States.{State}
use Rattle.lu_machine.specs.Starts.{IsStart, at_rest}
use Rattle.lu_machine.proofs.Starting.{other_start, start_same, starts_at_rest}
use Rattle.lu_serial.specs.Serial.{HasOpen}
use Rattle.lu_serial.proofs.CallsLeft.{none_at_rest}
use Rattle.lu_serial.proofs.Moves.{HasSeats}

-- the component, and the cells and locks that a setup leaves
pub record Ground : Type 0 where
  pub component : Component
  pub cells : List ℕ
  pub locks : List (Option ℕ)

-- on this ground the matrix starts so
abbrev pub start_on : Ground → Matrix → State
start_on g matrix = at_rest g.component matrix g.cells g.locks

-- the ground of a start
abbrev pub ground_of : Component → State → Ground
ground_of c s = record { component = c; cells = s.cells; locks = s.locks }

pub grounded : (c : Component) (matrix : Matrix) (s : State) → IsStart c matrix s → s ≡ start_on (ground_of c s) matrix
grounded c matrix s is = starts_at_rest c matrix s is

-- on the same ground starts each matrix of the same setup
pub same_ground : (c : Component) (matrix other : Matrix) (s start : State) → IsStart c matrix s → other.setup ≡ matrix.setup → IsStart c other start → start ≡ start_on (ground_of c s) other
same_ground c matrix other s start is e at = start_same c other start (start_on (ground_of c s) other) at (other_start c matrix other s is e)

-- and no operation is open
pub none_on : (g : Ground) (matrix : Matrix) (t : ℕ) → HasOpen (start_on g matrix) t → ⊥
none_on g matrix t o = none_at_rest g.component matrix g.cells g.locks t o

-- and each thread with a call has a place
pub seats_start : (g : Ground) (matrix : Matrix) → HasSeats (start_on g matrix)
seats_start g matrix t some =
    let idle : Thread = record { done = 0; activity = Idle } in
    let threads : length (start_on g matrix).threads ≡ length matrix.threads = length-replicate (length matrix.threads) idle in
    let there : t < length matrix.threads = is_thread matrix t 0 some in
    omega (arith, threads, there)
