use Rattle.lu_test.specs.Matrix.{calls_of}
use Rattle.lu_machine.specs.Starts.{MakesAll}
use Rattle.lu_machine.proofs.machine.Machine.make_all.Given as goal

abbrev pub invariant-loop-k : goal.invariant-loop-k
invariant-loop-k l = MakesAll l.fn.self.component (calls_of l.fn.self.matrix 0) l.k l.self
