use Rattle.std.proofs.Common.{rules, ◌≡◌, ◌∙◌, sym, subst}
use Rattle.lu_tree.specs.Accesses.{left_at}
use Rattle.lu_tree.specs.Known.{MadeBoth, MoveNotBoth}
use Rattle.lu_tree.specs.Alike.{AreAlike, AreLeftAlike}
use Rattle.lu_tree.proofs.Accessing.{has_location}
use Rattle.lu_tree.proofs.LeftAlike.{alike_left, left_alike}
use Rattle.lu_tree.proofs.KnownLaws.{commute_made, commute_seen}
use Rattle.lu_tree.proofs.commuting.commute_at.Goals as goal

pub returns-in_default-clause-commute : goal.returns-in_default-clause-commute
returns-in_default-clause-commute g c = (
  λ is. absurd (cc),
  λ commute.
      absurd (c.in_default.ensures.none commute.0 commute.2 commute.3 commute.4),
)

pub left_at-left-requires : goal.left_at-left-requires
left_at-left-requires g c =
    let there : MadeBoth c.args.first c.args.second c.args.machine.now c.make_both.new.machine c.in-Some.there = c.in-Some.ensures.made in
    has_location c.args.first c.args.second c.args.machine.now c.make_both.new.machine c.in-Some.there.first.event c.in-Some.there.second.event c.args.location there.moves c.requires.there

pub returns-in_default-make_both-clause-commute : goal.returns-in_default-make_both-clause-commute
returns-in_default-make_both-clause-commute g c = (
  λ is. absurd (cc),
  λ commute.
      (let s = c.args.machine.now in
      let back : c.take_back.new.machine ≡ s = c.take_back.ensures ∙ c.in-Some.ensures.made.back in
      let none : MoveNotBoth c.args.second c.args.first s = subst (MoveNotBoth c.args.second c.args.first) back c.in_default-make_both.ensures.none in
      absurd (none commute.1 commute.3 commute.2 commute.5)),
)

pub left_at-requires : goal.left_at-requires
left_at-requires g c =
    let s = c.args.machine.now in
    let back : c.take_back.new.machine ≡ s = c.take_back.ensures ∙ c.in-Some.ensures.made.back in
    let here : MadeBoth c.args.second c.args.first s c.make_both-2.new.machine c.in-Some-make_both.here = subst (λ x. MadeBoth c.args.second c.args.first x c.make_both-2.new.machine c.in-Some-make_both.here) back c.in-Some-make_both.ensures.made in
    has_location c.args.second c.args.first s c.make_both-2.new.machine c.in-Some-make_both.here.first.event c.in-Some-make_both.here.second.event c.args.location here.moves c.requires.there

pub returns-then-alike-clause-commute : goal.returns-then-alike-clause-commute
returns-then-alike-clause-commute g c =
    let s = c.args.machine.now in
    let table = c.args.dead.now in
    let first = c.args.first in
    let second = c.args.second in
    let end = c.make_both.new.machine in
    let other = c.make_both-2.new.machine in
    let there : MadeBoth first second s end c.in-Some.there = c.in-Some.ensures.made in
    let back : c.take_back.new.machine ≡ s = c.take_back.ensures ∙ there.back in
    let here : MadeBoth second first s other c.in-Some-make_both.here = subst (λ x. MadeBoth second first x other c.in-Some-make_both.here) back c.in-Some-make_both.ensures.made in
    let one : c.left_at-left.result ≡ left_at end first second c.args.location = c.left_at-left.ensures in
    let two : c.left_at.result ≡ left_at other first second c.args.location = c.left_at.ensures in
    let seen : AreLeftAlike table c.left_at-left.result c.left_at.result = c.are_left_alike-alike.ensures.0 (search rules) in
    let left : AreLeftAlike table (left_at end first second c.args.location) (left_at other first second c.args.location) = subst (λ x. AreLeftAlike table (left_at end first second c.args.location) x) two (subst (λ x. AreLeftAlike table x c.left_at.result) one seen) in
    let alike : AreAlike table end other = left_alike table first second s end other c.in-Some.there c.in-Some-make_both.here c.args.location there here c.requires.differ c.requires.at left in (
      λ is. commute_seen table first second s end other c.in-Some.there c.in-Some-make_both.here there here alike (c.have_same_events.ensures.0 is),
      λ commute. c.have_same_events.ensures.1 (commute_made table first second s end other c.in-Some.there c.in-Some-make_both.here there here commute).1,
    )

pub returns-else-alike-clause-commute : goal.returns-else-alike-clause-commute
returns-else-alike-clause-commute g c = (
  λ is. absurd (search rules),
  λ commute.
      (let s = c.args.machine.now in
      let table = c.args.dead.now in
      let first = c.args.first in
      let second = c.args.second in
      let end = c.make_both.new.machine in
      let other = c.make_both-2.new.machine in
      let there : MadeBoth first second s end c.in-Some.there = c.in-Some.ensures.made in
      let back : c.take_back.new.machine ≡ s = c.take_back.ensures ∙ there.back in
      let here : MadeBoth second first s other c.in-Some-make_both.here = subst (λ x. MadeBoth second first x other c.in-Some-make_both.here) back c.in-Some-make_both.ensures.made in
      let alike : AreAlike table end other = (commute_made table first second s end other c.in-Some.there c.in-Some-make_both.here there here commute).0 in
      let one : c.left_at-left.result ≡ left_at end first second c.args.location = c.left_at-left.ensures in
      let two : c.left_at.result ≡ left_at other first second c.args.location = c.left_at.ensures in
      let left : AreLeftAlike table c.left_at-left.result c.left_at.result = subst (λ x. AreLeftAlike table c.left_at-left.result x) (sym two) (subst (λ x. AreLeftAlike table x (left_at other first second c.args.location)) (sym one) (alike_left table first second end other c.args.location alike)) in
      absurd (search (rules, c.are_left_alike-alike.ensures.1 left))),
)
