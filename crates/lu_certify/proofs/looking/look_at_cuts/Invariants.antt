use Rattle.std.proofs.Common.{All}
use Rattle.lu_certify.specs.Looking.{IsFoundAt}
use Rattle.lu_certify.proofs.looking.look_at_cuts.Given as goal

abbrev pub invariant-loop : goal.invariant-loop
invariant-loop g l = All (λ one. IsFoundAt l.test.component.now l.test.matrix.now l.test.limits one.number one.found) l.list.items
