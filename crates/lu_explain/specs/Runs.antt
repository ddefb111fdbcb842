-- What a text speaks of.
use Rattle.std.specs.Prelude.{ℕ, List}
use Rattle.lu_component.specs.Component.{Component}
use Rattle.lu_test.specs.Matrix.{Matrix}
use Rattle.lu_machine.specs.declared.event.Event.{Event}

-- what an explanation is of: a history, and the component and the matrix that name its calls
pub record Subject : Type 0 where
  pub component : Component
  pub matrix : Matrix
  pub events : List Event

abbrev pub subject_of : Component → Matrix → List Event → Subject
subject_of c matrix events = record { component = c; matrix = matrix; events = events }

-- a component, a matrix, the events of a run, and the number of the move of each
pub record Run : Type 0 where
  pub component : Component
  pub matrix : Matrix
  pub events : List Event
  pub moves : List ℕ

abbrev pub run_of : Component → Matrix → List Event → List ℕ → Run
run_of c matrix events moves =
    record { component = c; matrix = matrix; events = events; moves = moves }
