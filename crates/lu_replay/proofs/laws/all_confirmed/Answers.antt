use Rattle.lu_witness.specs.Witnesses.{IsMember}
use Rattle.lu_replay.proofs.RunsAnew.{report_shown, report_shown_against}
use Rattle.lu_replay.proofs.laws.all_confirmed.Goals as goal

pub returns : goal.returns
returns _ = record {
  serially = λ c matrix bound serial r is no_pass. report_shown c matrix bound serial r is no_pass;
  against = λ c matrix members bound r is no_pass. report_shown_against (IsMember members) c matrix bound r is no_pass;
}
