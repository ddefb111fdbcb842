use Rattle.std.proofs.Common.{ℕ, All, List}
use Rattle.std.specs.Global.{Vec}
use Rattle.std.specs.Vec.Iter.{into_iter_items}
use Rattle.lu_component.specs.Component.{Component}
use Rattle.lu_test.specs.Matrix.{Matrix}
use Rattle.lu_history.specs.declared.serial.SerialOp.{SerialOp}
use Rattle.lu_graph.specs.declared.holding.Nodes.{Nodes}
use Rattle.lu_graph.specs.Expanding.{AreFoundBetween}
use Rattle.lu_graph.proofs.expanders.gather.Given as goal

abbrev pub invariant-loop-found : goal.invariant-loop-found
invariant-loop-found l =
    (c : Component) (matrix : Matrix) (members : List (Vec SerialOp)) (nodes : Nodes) (from end : ℕ)
    → AreFoundBetween c matrix members nodes from end l.fn.first → All (AreFoundBetween c matrix members nodes from end) l.fn.others.items
    → AreFoundBetween c matrix members nodes from end l.first × All (AreFoundBetween c matrix members nodes from end) (into_iter_items l.found-iterator)
