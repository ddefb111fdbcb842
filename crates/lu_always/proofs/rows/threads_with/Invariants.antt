use Rattle.std.proofs.Common.{◌≡◌, ℕ, ◌<◌, Some, length, slice_get}
use Rattle.std.specs.List.{slice_index}
use Rattle.lu_machine.specs.declared.thread.Thread.{Thread}
use Rattle.lu_always.specs.Numbered.{with_number}
use Rattle.lu_always.proofs.rows.threads_with.Given as goal

abbrev pub invariant-loop-index : goal.invariant-loop-index
invariant-loop-index l = record {
  eight : length l.threads ≡ 8;
  each : (t : ℕ) (a : Thread) → t < l.index → with_number l.table.keys (slice_index l.numbers t) ≡ Some a → slice_get l.threads t ≡ Some a;
}
