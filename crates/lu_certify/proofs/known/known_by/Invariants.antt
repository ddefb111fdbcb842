use Rattle.std.specs.Vec.Iter.{into_iter_items}
use Rattle.lu_component.specs.Component.{Component}
use Rattle.lu_test.specs.Matrix.{Matrix}
use Rattle.lu_certify.specs.declared.limits.Limits.{Limits}
use Rattle.lu_certify.specs.Looking.{AreAllFoundAt, AreKnown}
use Rattle.lu_certify.proofs.known.known_by.Given as goal

abbrev pub invariant-loop-list : goal.invariant-loop-list
invariant-loop-list l =
    (c : Component) (m : Matrix) (limits : Limits) → AreAllFoundAt c m limits l.fn.found.items
    → AreKnown c m limits l.known.items × AreAllFoundAt c m limits (into_iter_items l.list-iterator)
