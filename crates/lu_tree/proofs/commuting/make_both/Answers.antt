use Rattle.std.proofs.Common.{◌≡◌, ◌∙◌, arith}
use Rattle.std.proofs.lemmas.Bool.Decides.{nat_tests}
use Rattle.lu_tree.proofs.KnownLaws.{not_both}
use Rattle.lu_tree.proofs.commuting.make_both.Goals as goal

pub returns-then-picks-ne1-clause-none : goal.returns-then-picks-ne1-clause-none
returns-then-picks-ne1-clause-none g c =
    let made = c.make_move-undo in
    not_both c.args.first c.args.second c.args.machine.now made.new.machine made.result.event made.ensures.moves (λ one.
    (let picks : c.picks.result ≡ 1 = c.picks.ensures ∙ one in
    let other = c.if-picks-ne1.true in
    absurd (grind (arith, nat_tests))))
