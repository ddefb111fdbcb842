use Rattle.std.proofs.Common.{arith, rules}
use Rattle.lu_trie.proofs.Trees.{branch_lighter, length-taken}
use Rattle.lu_fixtures.proofs.walk.+count.Goals as goal

pub count-requires : goal.count-requires
count-requires g t c κs w =
    let law = g.met.T.SerialTree.branching c.args.tree.now c.args.place c.requires in
    (let lt = branch_lighter _ law c.loop-i.i _ c.kid-below.ensures.kid in search (rules, lt), (w.0, (w.1, c.kid-below.ensures.place)))

pub loop-i-preserved : goal.loop-i-preserved
loop-i-preserved g t c =
    let more = length-taken _ c.loop-i.i _ (omega arith) c.kid-below.ensures.kid in
    omega (arith, more, c.saturating_add-count.ensures, c.count.ensures, c.loop-i.invariant)
