use Rattle.std.proofs.Common.{sym, ◌∙◌, rules}
use Rattle.lu_history.proofs.Derived.{ops_alike}
use Rattle.lu_trie.proofs.Trees.{branch_lighter}
use Rattle.lu_fixtures.proofs.Alike.{not_false, taken_more}
use Rattle.lu_fixtures.proofs.walk.+same_members.Goals as goal

pub same_members-requires : goal.same_members-requires
same_members-requires g t c κs w =
    let law = g.met.S.SerialTree.branching c.args.left.now c.args.here c.requires.left in
    (let lt = branch_lighter _ law c.loop-i.i _ c.kid-below.ensures.kid in search (rules, lt), (w.0, (w.1.0, (w.1.1.0, (w.1.1.1, (c.kid-below.ensures.place, c.kid-beside.ensures.place))))))

pub loop-i-preserved : goal.loop-i-preserved
loop-i-preserved g t c =
    let label = ops_alike _ _ (not_false _ (sym c.if-ne.false ∙ c.ne.ensures)) in
    taken_more _ _ c.loop-i.i _ _ _ _ c.kid-below.ensures.kid c.kid-beside.ensures.kid c.loop-i.invariant label (c.same_members.ensures.0 c.if-not-same_members.false)
