use Rattle.std.proofs.Common.{rules, ◌≡◌, None, arith}
use Rattle.std.proofs.lemmas.Bool.Decides.{nat_tests}
use Rattle.lu_machine.specs.Steps.{picks_of}
use Rattle.lu_tree.specs.Accesses.{conflict, next_access}
use Rattle.lu_tree.proofs.Accessing.{free_commute, commute_is_free}
use Rattle.lu_tree.proofs.commuting.commute.Goals as goal

pub returns-in-None-clause-commute : goal.returns-in-None-clause-commute
returns-in-None-clause-commute g c =
    let s = c.args.machine.now in
    let none : conflict (next_access s c.args.first) (next_access s c.args.second) ≡ None = search rules in
    let first : picks_of s c.args.first ≡ 1 = (let is = c.if-picks-ne1.false in grind (arith, nat_tests, c.picks.ensures)) in
    let second : picks_of s c.args.second ≡ 1 = (let is = c.if-picks-ne1-2.false in grind (arith, nat_tests, c.picks-else-picks-ne1.ensures)) in (
      λ is. free_commute c.args.dead.now c.args.first c.args.second s first second (c.requires.differ, none) (c.are_free.ensures.free.0 is),
      λ commute. c.are_free.ensures.free.1 (commute_is_free c.args.dead.now c.args.first c.args.second s commute),
    )
