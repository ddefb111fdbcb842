use Rattle.std.proofs.Common.{◌≡◌, ℕ, ◌<◌, false}
use Rattle.lu_run.specs.Following.{HasAnswer, question_at}
use Rattle.lu_run.specs.Offending.{Learns}
use Rattle.lu_run.proofs.following.learn_at.Given as goal

abbrev pub invariant-loop-thread : goal.invariant-loop-thread
invariant-loop-thread l = record {
  learns : Learns l.fn.runs.component.now l.fn.runs.calls.now l.fn.table l.table;
  known : (t : ℕ) → t < l.thread → HasAnswer l.table (question_at l.pending l.one t);
  same : l.new ≡ false → l.table ≡ l.fn.table;
}
