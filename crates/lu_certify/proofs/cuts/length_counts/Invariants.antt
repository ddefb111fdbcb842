use Rattle.std.proofs.Common.{◌≡◌, ◌+◌, length, take}
use Rattle.std.specs.Prelude.{map}
use Rattle.lu_certify.proofs.cuts.length_counts.Given as goal

abbrev pub invariant-loop-calls : goal.invariant-loop-calls
invariant-loop-calls l = l.counts.items ≡ map (λ calls. length calls + 1) (take l.calls-index l.matrix.threads)
