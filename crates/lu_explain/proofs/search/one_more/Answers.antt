use Rattle.std.proofs.Common.{◌≡◌, ◌+◌, if◌then◌else◌, length, get_or, ap, sym, ◌∙◌, arith, rules}
use Rattle.std.specs.Prelude.{◌==◌}
use Rattle.lu_history.proofs.Keeping.{bumped}
use Rattle.lu_witness.proofs.Finding.{taken_more}
use Rattle.lu_explain.proofs.Counting.{number_more}
use Rattle.lu_explain.proofs.search.one_more.Goals as goal

pub returns-clause-takes : goal.returns-clause-takes
returns-clause-takes c p op are same =
    let l8 : length c.args.taken.now ≡ 8 = search rules in
    taken_more c.args.taken.now p op c.from.result are (omega (arith, c.from.ensures)) (same ∙ sym c.from.ensures)

pub returns-clause-count : goal.returns-clause-count
returns-clause-count c =
    let l8 : length c.args.taken.now ≡ 8 = search rules in
    number_more c.args.taken.now c.from.result (omega (arith, c.from.ensures))

pub returns-clause-one : goal.returns-clause-one
returns-clause-one c t =
    let l8 : length c.args.taken.now ≡ 8 = search rules in
    bumped c.args.taken.now c.from.result t (omega (arith, c.from.ensures)) ∙ ap (λ x. get_or c.args.taken.now t 0 + (if x == t then 1 else 0)) c.from.ensures
