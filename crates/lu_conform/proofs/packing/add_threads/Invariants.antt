use Rattle.std.proofs.Common.{◌≡◌, ◌++◌, take}
use Rattle.std.specs.Prelude.{All}
use Rattle.std.specs.List.{flat_map}
use Rattle.lu_conform.specs.Packing.{IsThreadReadBack, thread_numbers}
use Rattle.lu_conform.proofs.packing.add_threads.Given as goal

abbrev pub invariant-loop-thread : goal.invariant-loop-thread
invariant-loop-thread l = record {
  added : l.numbers.items ≡ l.fn.numbers.items ++ flat_map thread_numbers (take l.thread l.machine.threads);
  back : All IsThreadReadBack (take l.thread l.machine.threads);
}
