use Rattle.std.proofs.Common.{◌≡◌, get_or, length, ap, refl, arith, rules}
use Rattle.lu_history.proofs.PartEntries.{part_length}
use Rattle.lu_witness.proofs.Nexts.{all_taken}
use Rattle.lu_witness.proofs.search.all_taken.Goals as goal

pub returns-then-taken-from : goal.returns-then-taken-from
returns-then-taken-from c =
    let read = ap (λ x. get_or c.args.taken.now x 0) c.from.ensures in
    (λ e. cc, λ all. absurd (omega (arith, read, all c.loop-t.t, part_length c.args.history.now c.requires c.loop-t.t)))

pub returns : goal.returns
returns c =
    let l8 : length c.args.taken.now ≡ 8 = search rules in
    (λ e. all_taken c.args.history.now c.requires c.args.taken.now l8 (λ t lt. c.loop-t.invariant t (omega arith)), λ all. refl)
