use Rattle.std.proofs.Common.{◌≡◌, length, sym, ◌∙◌, arith, rules}
use Rattle.lu_witness.proofs.Finding.{taken_more}
use Rattle.lu_witness.proofs.search.one_more.Goals as goal

pub returns : goal.returns
returns c p op are same =
    let l8 : length c.args.taken.now ≡ 8 = search rules in
    taken_more c.args.taken.now p op c.from.result are (omega (arith, c.from.ensures)) (same ∙ sym c.from.ensures)
