use Rattle.lu_replay.proofs.Playing.{one_replay, replay_or_fault, one_fault, all_replayed}
use Rattle.lu_replay.proofs.laws.replay_laws.Goals as goal

pub returns : goal.returns
returns _ = record { one_replay = one_replay; replay_or_fault = replay_or_fault; one_fault = one_fault; all_replayed = all_replayed }
