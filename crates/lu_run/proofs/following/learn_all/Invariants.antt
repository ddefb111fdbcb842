use Rattle.std.proofs.Common.{◌≡◌, ℕ, ◌<◌, Some, false, slice_get}
use Rattle.lu_linearization.specs.declared.configuration.Configuration.{Configuration}
use Rattle.lu_run.specs.Following.{IsKnownAt}
use Rattle.lu_run.specs.Offending.{Learns}
use Rattle.lu_run.proofs.following.learn_all.Given as goal

abbrev pub invariant-loop-one : goal.invariant-loop-one
invariant-loop-one l = record {
  learns : Learns l.fn.runs.component.now l.fn.runs.calls.now l.fn.table l.table;
  known : (i : ℕ) (one : Configuration) → i < l.one-index → slice_get l.configurations i ≡ Some one → IsKnownAt l.table l.pending one;
  same : l.new ≡ false → l.table ≡ l.fn.table;
}
