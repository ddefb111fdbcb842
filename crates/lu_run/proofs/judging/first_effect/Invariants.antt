use Rattle.std.proofs.Common.{◌≡◌, drop}
use Rattle.lu_run.specs.Judging.{first_effect}
use Rattle.lu_run.proofs.judging.first_effect.Given as goal

abbrev pub invariant-loop-one : goal.invariant-loop-one
invariant-loop-one l = first_effect l.thread (drop l.one-index l.configurations) ≡ first_effect l.thread l.configurations
