use Rattle.std.proofs.Common.{sym, ◌∙◌, arith}
use Rattle.lu_history.proofs.Derived.{ops_alike, ops_differ}
use Rattle.lu_trie.proofs.Trees.{branching-at, branching-apart, apart_more}
use Rattle.lu_serial.proofs.outside.+contains_below.Goals as goal

pub returns-then-eq : goal.returns-then-eq
returns-then-eq g t c =
    let law = g.met.T.SerialTree.branching c.args.tree.now c.args.place c.requires in
    let same = ops_alike _ _ (sym c.eq.ensures ∙ c.if-eq.true) in
    c.contains_below.ensures ∙ sym (branching-at _ law c.args.history.now _ c.in-len1-up.len_at_least c.loop-i.i _ (omega arith) c.kid-below.ensures.kid same)

pub loop-i-preserved : goal.loop-i-preserved
loop-i-preserved g t c = apart_more _ _ c.loop-i.i _ c.kid-below.ensures.kid (ops_differ _ _ (sym c.eq.ensures ∙ c.if-eq.false)) c.loop-i.invariant

pub returns-after-loop-i : goal.returns-after-loop-i
returns-after-loop-i g t c =
    let law = g.met.T.SerialTree.branching c.args.tree.now c.args.place c.requires in
    sym (branching-apart _ law c.args.history.now _ c.in-len1-up.len_at_least (λ j e lt. c.loop-i.invariant j e (omega arith)))
