use Rattle.std.proofs.Common.{◌≡◌, ◌≤◌, length, take}
use Rattle.lu_always.specs.Numbered.{Extends}
use Rattle.lu_always.specs.Rows.{HaveNumbers}
use Rattle.lu_always.proofs.rows.number_threads.Given as goal

abbrev pub invariant-loop-thread : goal.invariant-loop-thread
invariant-loop-thread l = record {
  eight : length l.numbers ≡ 8;
  within : l.thread ≤ length l.machine.threads;
  grows : Extends l.fn.table.keys l.table.keys;
  numbers : HaveNumbers l.table.keys (take l.thread l.machine.threads) l.numbers;
}
