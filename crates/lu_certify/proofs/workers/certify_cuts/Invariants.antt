use Rattle.lu_certify.specs.Certificates.{limits_of}
use Rattle.lu_certify.proofs.Rounds.{IsKnown, NoneFailsBefore}
use Rattle.lu_certify.proofs.workers.certify_cuts.Given as goal

abbrev pub invariant-loop-number : goal.invariant-loop-number
invariant-loop-number g l = record {
  none : NoneFailsBefore l.test.component.now l.test.matrix.now (limits_of l.options l.nodes) l.number;
  known : IsKnown l.test.component.now l.test.matrix.now (limits_of l.options l.nodes) l.number l.so_far;
}
