use Rattle.std.proofs.Common.{◌≡◌, ◌<◌, ◌++◌, [], ◌∷◌, length, slice_index_or, take, IfOk, refl, ap, subst, sym, ◌∙◌, arith, rules}
use Rattle.std.proofs.lemmas.List.{take_more, take_all}
use Rattle.lu_trie.specs.Members.{AllSerial}
use Rattle.lu_trie.specs.Branches.{AreBranches, members_from}
use Rattle.lu_trie.specs.Packed.{AllBelow, resolve}
use Rattle.lu_trie.proofs.FlatTrees.{grown_same, grown_more, kid_lighter, linked_more}
use Rattle.lu_trie.proofs.trie.Trie.+add_to.Goals as goal

pub returns-in_err-clone-clause-grows : goal.returns-in_err-clone-clause-grows
returns-in_err-clone-clause-grows g t c = grown_same c.args.table.now

pub returns-in_err-links-clause-grows : goal.returns-in_err-links-clause-grows
returns-in_err-links-clause-grows g t c = grown_same c.args.table.now

pub loop-label-init : goal.loop-label-init
loop-label-init g t c = rw c.in_ok-links.ensures.items record { grown = grown_same c.args.table.now; below = tt; done = refl }

pub add_to-requires : goal.add_to-requires
add_to-requires g t c κs w =
    let items = c.deref-label-items.result.now in
    let read = rw c.deref-label-items.ensures.value at c.loop-label-item.is in
    let lt = rw c.self.view_is at (kid_lighter c.self.inside.ends c.self.inside.kids.items c.self.invariant.are c.loop-label.label-index c.loop-label-item.result (rw (← c.deref-label-items.ensures.value) (let x : c.loop-label.label-index < length items = omega arith in x)) read) in
    (search (rules, lt), (w.0, w.1))

pub returns-in_err-place-clause-grows : goal.returns-in_err-place-clause-grows
returns-in_err-place-clause-grows g t c = grown_more _ _ _ c.loop-label.invariant.grown c.add_to.ensures.grows

pub returns-in_err-push-clause-grows : goal.returns-in_err-push-clause-grows
returns-in_err-push-clause-grows g t c = grown_more _ _ _ c.loop-label.invariant.grown c.add_to.ensures.grows

pub loop-label-preserved : goal.loop-label-preserved
loop-label-preserved g t c =
    let items = c.deref-label-items.result.now in
    let i = c.loop-label.label-index in
    let kid = c.loop-label-item.result in
    let inv = c.loop-label.invariant in
    let more = linked_more c.loop-label.table c.add_to.new.table c.loop-label.links.items (take i items) kid.0 c.in_ok-place.place kid.1 c.add_to.ensures.grows inv.below inv.done c.in_ok-place.ensures.place c.in_ok-place.ensures.members in
    let here = take_more items i kid (omega arith) ∙ ap (λ x. take i items ++ x ∷ []) (sym c.loop-label-item.is) in
    rw (c.in_ok-push.ensures.items, here) record {
      grown = grown_more _ _ _ inv.grown c.add_to.ensures.grows;
      below = more.below;
      done = more.done;
    }

pub push_node-requires-clause-below : goal.push_node-requires-clause-below
push_node-requires-clause-below g t c = subst (AllBelow (length c.loop-label.table)) (sym c.deref.ensures.value) c.loop-label.invariant.below

pub push_node-requires-clause-branches : goal.push_node-requires-clause-branches
push_node-requires-clause-branches g t c =
    let items = c.deref-label-items.result.now in
    let done = c.loop-label.invariant.done ∙ take_all c.loop-label.label-index items (omega arith) ∙ c.deref-label-items.ensures.value in
    subst AreBranches (sym (ap (resolve c.loop-label.table) c.deref.ensures.value ∙ done)) c.self.invariant.are

pub push_node-requires-clause-serial : goal.push_node-requires-clause-serial
push_node-requires-clause-serial g t c =
    let items = c.deref-label-items.result.now in
    let done = c.loop-label.invariant.done ∙ take_all c.loop-label.label-index items (omega arith) ∙ c.deref-label-items.ensures.value in
    subst (λ bs. AllSerial (members_from c.self.inside.ends bs)) (sym (ap (resolve c.loop-label.table) c.deref.ensures.value ∙ done)) c.self.invariant.serial

pub returns-clause-grows : goal.returns-clause-grows
returns-clause-grows g t c = grown_more _ _ _ c.loop-label.invariant.grown c.push_node.ensures.grows

pub returns-clause-members : goal.returns-clause-members
returns-clause-members g t c =
    let items = c.deref-label-items.result.now in
    let done = c.loop-label.invariant.done ∙ take_all c.loop-label.label-index items (omega arith) ∙ c.deref-label-items.ensures.value in
    let same = ap (resolve c.loop-label.table) c.deref.ensures.value ∙ done in
    subst (λ hs. IfOk c.push_node.result (λ place. slice_index_or c.push_node.new.self place [] ≡ hs)) (ap (members_from c.self.inside.ends) same ∙ c.self.view_is) c.push_node.ensures.members
