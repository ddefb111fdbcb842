use Rattle.std.proofs.Common.{◌≡◌, ◌++◌, List}
use Rattle.std.specs.Vec.Iter.{into_iter_items}
use Rattle.lu_machine.specs.declared.counts.Counts.{Counts}
use Rattle.lu_machine.specs.Sums.{total}
use Rattle.lu_parallel.specs.Conclusions.{seats_of, counts_of_works, founds_of}
use Rattle.lu_parallel.proofs.conclusion.gather.Given as goal

abbrev pub invariant-loop-work : goal.invariant-loop-work
invariant-loop-work l =
    let rest = into_iter_items l.work-iterator in let all = l.fn.works.items in
    (l.seats.items ++ seats_of rest ≡ seats_of all)
    × ((done : List Counts) × (l.counts ≡ total done) × (done ++ counts_of_works rest ≡ counts_of_works all))
    × (l.found.items ++ founds_of rest ≡ founds_of all)
