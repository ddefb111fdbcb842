use Rattle.lu_always.proofs.Decided.{certified_in_one_round, livelock_in_one_round, no_livelock_in_one_round, one_round_is_all_cuts, refuted_in_one_round}
use Rattle.lu_always.proofs.OneRound.{one_round_is_cut}
use Rattle.lu_always.proofs.laws.one_round_laws.Goals as goal

pub returns : goal.returns
returns _ = record {
  cuts = one_round_is_cut;
  all_cuts = one_round_is_all_cuts;
  certified = certified_in_one_round;
  refuted = refuted_in_one_round;
  livelock = livelock_in_one_round;
  no_livelock = no_livelock_in_one_round;
}
