use Rattle.std.proofs.Common.{ap, arith, length}
use Rattle.std.proofs.lemmas.Bool.{both_ways}
use Rattle.lu_graph.proofs.Sectioned.{guarded_only, none_more}
use Rattle.lu_graph.proofs.guards.is_guarded.Goals as goal

pub have-requires : goal.have-requires
have-requires c = c.in_ok-sections.ensures.many

pub loop-lock-preserved : goal.loop-lock-preserved
loop-lock-preserved c =
    none_more c.args.component.now c.args.array c.loop-lock.lock c.loop-lock.invariant
    (λ guarded. both_ways c.have.result c.if-have.false (c.have.ensures.1 (guarded_only c.args.component.now c.args.array c.loop-lock.lock c.in_ok-sections.sections c.in_ok-sections.ensures guarded)))

pub returns : goal.returns
returns c =
    let many = ap length c.locks.ensures.locks in (
      (λ never. absurd (cc)),
      (λ guarded. absurd (let lt = guarded.2 in c.loop-lock.invariant guarded.1 (omega (arith, lt, c.loop-lock-test.false, many)) guarded.3)),
    )
