use Rattle.lu_witness.specs.Witnesses.{IsMember}
use Rattle.lu_replay.proofs.Determined.{one_report, one_report_against}
use Rattle.lu_replay.proofs.laws.one_report.Goals as goal

pub returns : goal.returns
returns _ = record {
  serially = λ c matrix bound serial r other settles x y. one_report c matrix bound serial r other settles x y;
  against = λ c matrix members bound r other settles x y. one_report_against (IsMember members) c matrix bound r other settles x y;
}
