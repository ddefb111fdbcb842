use Rattle.std.proofs.Common.{[], ◌∷◌, ◌++◌, take, ap, sym, ◌∙◌, subst, arith}
use Rattle.std.proofs.lemmas.List.{take_more, take_all}
use Rattle.std.specs.List.Sorted.{IsStrictlySortedBy}
use Rattle.lu_trie.specs.Members.{history_cmp}
use Rattle.lu_trie.proofs.Sorted.{each_sorted-push, node-sorted, length-joined-push}
use Rattle.lu_trie.proofs.trie.Trie.+len.Goals as goal

pub loop-below-preserved : goal.loop-below-preserved
loop-below-preserved g t c =
    let items = c.deref-below-items.result.now in
    let i = c.loop-below.below-index in
    let kid = c.loop-below-item.result in
    let more = take_more items i kid (omega arith) in
    let here = more ∙ ap (λ x. take i items ++ x ∷ []) (sym c.loop-below-item.is) in
    rw here record {
      counted = let n = length-joined-push (take i items) kid in omega (arith, n, c.saturating_add-count.ensures, c.len.ensures.count, c.loop-below.invariant.counted);
      sorted = each_sorted-push (take i items) kid c.loop-below.invariant.sorted c.len.ensures.sorted;
    }

pub returns-clause-sorted : goal.returns-clause-sorted
returns-clause-sorted g t c =
    let items = c.deref-below-items.result.now in
    let all = take_all c.loop-below.below-index items (omega arith) in
    let each = rw (all, c.deref-below-items.ensures.value) at c.loop-below.invariant.sorted in
    subst (IsStrictlySortedBy history_cmp) c.self.view_is (node-sorted c.self.inside.ends c.self.inside.kids.items c.self.invariant.are each)
