use Rattle.lu_replay.proofs.Playing.{IsPlayed}
use Rattle.lu_replay.proofs.player.replay.Given as goal

abbrev pub invariant-loop-index : goal.invariant-loop-index
invariant-loop-index l = IsPlayed l.initial.machine l.next-items l.index l.machine l.history
