use Rattle.lu_run.specs.Offending.{Learns}
use Rattle.lu_run.proofs.Rounds.{KnownWithin}
use Rattle.lu_run.proofs.following.follow.Given as goal

abbrev pub invariant-loop-round : goal.invariant-loop-round
invariant-loop-round l = record {
  learns : Learns l.fn.runs.component.now l.fn.runs.calls.now l.fn.table l.table;
  known : KnownWithin l.follower.pending l.follower.returns l.thread l.follower.monitor l._round l.table;
}
