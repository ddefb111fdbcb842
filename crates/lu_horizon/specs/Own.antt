-- The states of a run of a component and a matrix, and where a thread stands in one.
use Rattle.std.specs.Prelude.{◌≡◌, ℕ, Some, slice_get}
use Rattle.lu_component.specs.Component.{Component}
use Rattle.lu_test.specs.declared.matrix.Call.{Call}
use Rattle.lu_test.specs.Matrix.{Matrix, calls_of}
use Rattle.lu_machine.specs.declared.thread.Activity.TheVariants.{Idle, Open}
use Rattle.lu_machine.specs.declared.thread.Frame.{Frame}
use Rattle.lu_machine.specs.States.{State}

-- a state of the component and the matrix, in which what is open is the thread's call of that
-- number
pub record IsOwn (c : Component) (matrix : Matrix) (s : State) : Type 0 where
  pub component : s.component ≡ c
  pub matrix_is : s.matrix ≡ matrix
  pub own : (t k : ℕ) (f : Frame)
      → slice_get s.threads t ≡ Some (record { done = k; activity = Open f })
      → (call : Call) × (slice_get (calls_of matrix t) k ≡ Some call) × (f.op ≡ call.op)

-- thread t is idle, after k calls
pub record IsIdle (c : Component) (matrix : Matrix) (t k : ℕ) (s : State) : Type 0 where
  pub own : IsOwn c matrix s
  pub stands : slice_get s.threads t ≡ Some (record { done = k; activity = Idle })

-- thread t has its call number k open, at this place
pub record IsOpenAt (c : Component) (matrix : Matrix) (t k place : ℕ) (s : State) : Type 0 where
  pub own : IsOwn c matrix s
  pub frame : Frame
  pub stands : slice_get s.threads t ≡ Some (record { done = k; activity = Open frame })
  pub place_is : frame.place ≡ place
