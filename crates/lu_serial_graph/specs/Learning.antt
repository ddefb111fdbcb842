-- What is learnt of a component and a matrix, with the serial histories as a graph.
use Rattle.std.specs.Prelude.{ℕ, Result, IfOk}
use Rattle.lu_component.specs.Component.{Component}
use Rattle.lu_test.specs.Matrix.{Matrix}
use Rattle.lu_machine.specs.Starts.{FromEachStart}
use Rattle.lu_machine.specs.States.{State}
use Rattle.lu_serial.specs.Offences.{IsFirstConflict, IsFirstCut, IsSetOf}
use Rattle.lu_serial_graph.specs.declared.learning.LearntGraph.{LearntGraph}
use Rattle.lu_serial_graph.specs.declared.learning.LearntGraph.TheVariants.{Conflict, Cut, Set}
use Rattle.lu_serial_graph.specs.Graphs.{members_of}

-- what `learn_graph` answers: the set, where there is no offence; or the least offence, which is cut
-- or conflicts so
abbrev pub IsLearntGraph : {A : Type 0} → State → ℕ → LearntGraph A → Type 0
IsLearntGraph s bound (Set graph) = IsSetOf s bound (members_of graph)
IsLearntGraph s bound (Cut u) = IsFirstCut s bound u
IsLearntGraph s bound (Conflict u before earlier) = IsFirstConflict s bound u before earlier

-- from each start it answers this, where memory suffices
abbrev pub LearnsGraph : {A E : Type 0} → Component → Matrix → ℕ → Result (LearntGraph A) E → Type 0
LearnsGraph c matrix bound result =
    FromEachStart c matrix (λ s. IfOk result (IsLearntGraph s bound))
