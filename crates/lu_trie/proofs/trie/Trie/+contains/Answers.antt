use Rattle.std.proofs.Common.{sym, ◌∙◌}
use Rattle.lu_trie.proofs.Membership.{node-at, node-gap, node-empty}
use Rattle.lu_trie.proofs.trie.Trie.+contains.Goals as goal

pub returns-in-empty : goal.returns-in-empty
returns-in-empty g t c = sym (rw (← c.self.view_is) (node-empty c.self.inside.ends c.self.inside.kids.items c.args.history.now c.in-empty.len_below))

pub returns-in-Ok : goal.returns-in-Ok
returns-in-Ok g t c =
    let at = rw c.deref.ensures.value at c.in-Ok.ensures.found in
    let whole = node-at c.self.inside.ends c.self.inside.kids.items c.args.history.now _ c.in-len1-up.len_at_least c.self.invariant.are c.in-Ok.i at c.index.result.now c.index.ensures in
    c.contains.ensures ∙ sym (rw (← c.self.view_is) whole)

pub returns-in-Err : goal.returns-in-Err
returns-in-Err g t c =
    let gap = rw c.deref.ensures.value at c.in-Err.ensures.absent in
    sym (rw (← c.self.view_is) (node-gap c.self.inside.ends c.self.inside.kids.items c.args.history.now _ c.in-len1-up.len_at_least _ gap))
