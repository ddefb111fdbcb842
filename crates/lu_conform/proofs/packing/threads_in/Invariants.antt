use Rattle.std.proofs.Common.{◌≡◌, ◌-◌, ◌++◌}
use Rattle.lu_conform.specs.Packing.{threads_in}
use Rattle.lu_conform.proofs.packing.threads_in.Given as goal

abbrev pub invariant-loop-read : goal.invariant-loop-read
invariant-loop-read l = l.threads.items ++ threads_in (l.count - l._read) l.rest ≡ threads_in l.count l.numbers
