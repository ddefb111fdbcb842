use Rattle.std.proofs.Common.{inr, refl}
use Rattle.lu_cli.specs.Outcomes.{no_memory}
use Rattle.lineup_c.proofs.lineup_answer.Goals as goal

pub returns-in-Err : goal.returns-in-Err
returns-in-Err c = record {
  answer = no_memory;
  is = inr refl;
  text = c.fill-in-Err.ensures.filled;
  whole = c.fill-in-Err.ensures.whole;
  status_is = refl;
}
