use Rattle.std.proofs.Common.{All}
use Rattle.std.specs.Vec.Iter.{into_iter_items}
use Rattle.lu_component.specs.Component.{Component}
use Rattle.lu_test.specs.Matrix.{Matrix}
use Rattle.lu_certify.specs.declared.limits.Limits.{Limits}
use Rattle.lu_certify.specs.Looking.{AreKnown, AreFoundAt, IsFoundAt}
use Rattle.lu_certify.proofs.known.put_all.Given as goal

abbrev pub invariant-loop-one : goal.invariant-loop-one
invariant-loop-one l =
    (c : Component) (m : Matrix) (limits : Limits) → AreKnown c m limits l.fn.known.items → AreFoundAt c m limits l.fn.found.items
    → AreKnown c m limits l.known.items × All (λ one. IsFoundAt c m limits one.number one.found) (into_iter_items l.one-iterator)
