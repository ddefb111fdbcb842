use Rattle.std.proofs.Common.{ap, arith, length, refl}
use Rattle.lu_graph.proofs.Sectioned.{accessed_ops}
use Rattle.lu_graph.proofs.guards.Sections.have.Goals as goal

pub returns : goal.returns
returns c =
    let many = ap length c.operations.ensures.operations in (
      (λ _. accessed_ops c.args.component.now c.args.array c.args.self.now c.loop-op.op (omega (arith, c.loop-op-test.false, many)) c.loop-op.invariant),
      (λ _. refl),
    )
