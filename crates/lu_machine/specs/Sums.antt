-- Sums of counts, in which 2^64 - 1 stands for that or more.
use Rattle.std.specs.Prelude.{ℕ, ◌+◌, ◌-◌, ◌^◌, min, List, sum_by}
use Rattle.lu_machine.specs.declared.counts.Counts.{Counts}

-- at most 2^64 - 1
abbrev pub capped : ℕ → ℕ
capped n = min n (2 ^ 64 - 1)

-- the sums of two counts
abbrev pub plus : Counts → Counts → Counts
plus a b = record {
  complete = capped (a.complete + b.complete);
  stuck = capped (a.stuck + b.stuck);
  cut = capped (a.cut + b.cut);
}

-- the sums of all counts
abbrev pub total : List Counts → Counts
total counts = record {
  complete = capped (sum_by (λ c. c.complete) counts);
  stuck = capped (sum_by (λ c. c.stuck) counts);
  cut = capped (sum_by (λ c. c.cut) counts);
}
