use Rattle.std.proofs.Common.{◌∙◌, sym, arith}
use Rattle.lu_history.proofs.Derived.{ops_alike, ops_differ}
use Rattle.lu_trie.proofs.Trees.{apart_more}
use Rattle.lu_serial_graph.proofs.Within.{after_branch, after_none}
use Rattle.lu_serial_graph.proofs.subset.child_with.Goals as goal

pub returns-then-eq-clause-child : goal.returns-then-eq-clause-child
returns-then-eq-clause-child g c =
    let hs = g.T.SerialTree.below c.args.tree.now c.args.place in
    let law = g.met.T.SerialTree.branching c.args.tree.now c.args.place c.requires in
    let same = ops_alike c.kid-child.result.0 c.args.label (sym c.eq.ensures ∙ c.if-eq.true) in
    after_branch hs law c.loop-i.i (c.kid-child.result.0, g.T.SerialTree.below c.args.tree.now c.kid-child.result.1) c.args.label (omega arith) c.kid-child.ensures.kid same

pub loop-i-preserved : goal.loop-i-preserved
loop-i-preserved g c = apart_more _ _ c.loop-i.i _ c.kid-child.ensures.kid (ops_differ _ _ (sym c.eq.ensures ∙ c.if-eq.false)) c.loop-i.invariant

pub returns-clause-none : goal.returns-clause-none
returns-clause-none g c =
    let hs = g.T.SerialTree.below c.args.tree.now c.args.place in
    let law = g.met.T.SerialTree.branching c.args.tree.now c.args.place c.requires in
    after_none hs law c.loop-i.i c.args.label (omega arith) c.loop-i.invariant
