use Rattle.std.proofs.Common.{arith, rules, ◌≡◌, take}
use Rattle.lu_trie.specs.Members.{Adds}
use Rattle.lu_spec.proofs.Listings.{one_longer, whole_added}
use Rattle.lu_spec.proofs.history_set.add_with_beginnings.Goals as goal

pub loop-end-preserved : goal.loop-end-preserved
loop-end-preserved c =
    let h = c.args.history.now in
    let is : c.in_ok-beginning.beginning.items ≡ take c.loop-end.end h = search rules in
    one_longer c.args.set.now c.loop-end.set c.insert.new.self h c.in_ok-beginning.beginning.items c.loop-end.end (omega arith) is c.loop-end.invariant c.in_ok-insert.ensures

pub returns : goal.returns
returns c =
    let h = c.args.history.now in
    let is : c.in_ok-whole.whole.items ≡ h = search rules in
    let adds : Adds c.loop-end.set c.insert-2.new.self h = rw is at c.in_ok-insert-2.ensures in
    whole_added c.args.set.now c.loop-end.set c.insert-2.new.self h c.loop-end.end (omega arith) c.loop-end.invariant adds
