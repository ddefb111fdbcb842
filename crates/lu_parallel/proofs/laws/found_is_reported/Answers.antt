use Rattle.lu_witness.specs.Witnesses.{IsMember}
use Rattle.lu_parallel.proofs.Answers.{found_against, found_finding}
use Rattle.lu_parallel.proofs.laws.found_is_reported.Goals as goal

pub returns : goal.returns
returns _ = record {
  against = λ s bound members found is. found_against (IsMember members) s bound found is;
  serially = λ s bound serial members found set is. found_finding members s bound serial found set is;
}
