use Rattle.lu_component.specs.Component.{Component}
use Rattle.lu_test.specs.Matrix.{Matrix}
use Rattle.lu_certify.specs.declared.limits.Limits.{Limits}
use Rattle.lu_certify.specs.Looking.{AreKnown}
use Rattle.lu_certify.proofs.known.none_known.Given as goal

abbrev pub invariant-loop : goal.invariant-loop
invariant-loop l = (c : Component) (m : Matrix) (limits : Limits) → AreKnown c m limits l.known.items
