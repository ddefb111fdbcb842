use Rattle.lu_serial.specs.Serial.{IsSerialHistory}
use Rattle.lu_witness.specs.Witnesses.{IsMember}
use Rattle.lu_tree.proofs.Covers.{first_of_cover, sums_of_cover}
use Rattle.lu_parallel.proofs.laws.cover_sums.Goals as goal

pub returns : goal.returns
returns _ = record {
  first = λ members. first_of_cover (IsMember members);
  first_serially = λ s. first_of_cover (IsSerialHistory s);
  sums = λ members. sums_of_cover (IsMember members);
  sums_serially = λ s. sums_of_cover (IsSerialHistory s);
}
