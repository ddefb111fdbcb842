use Rattle.std.proofs.Common.{rules, ◌≡◌, ◌++◌, ◌∷◌, ◌∙◌, List, [], map, vec_len, ap}
use Rattle.lu_machine.proofs.Orders.{popped}
use Rattle.lu_history.specs.declared.serial.SerialOp.{SerialOp}
use Rattle.lu_trie.specs.Branches.{branches_of}
use Rattle.lu_trie.specs.Members.{contains, empty_if}
use Rattle.lu_trie.proofs.Trees.{branch_lighter}
use Rattle.lu_graph.specs.Listing.{histories}
use Rattle.lu_graph.proofs.Listed.{listed_more}
use Rattle.lu_graph.proofs.listing.+list_below.Goals as goal

pub list_below-requires : goal.list_below-requires
list_below-requires g t c κs within =
    let law = g.met.T.SerialTree.branching c.args.tree.now c.args.place c.requires in
    (let lt = branch_lighter _ law c.loop-i.i _ c.kid-below.ensures.kid in search (rules, lt), search (rules, within, c.kid-below.ensures.place))

pub loop-i-preserved : goal.loop-i-preserved
loop-i-preserved g t c =
    let below = g.T.SerialTree.below c.args.tree.now c.args.place in
    let path = c.args.path.now.items in
    let op = c.kid-below.result.0 in
    let kid = g.T.SerialTree.below c.args.tree.now c.kid-below.result.1 in
    let pushed : c.push-in-loop-i.new.self.items ≡ path ++ op ∷ [] = c.in_ok-push-2.ensures.items ∙ ap (λ (p : List SerialOp). p ++ op ∷ []) c.loop-i.invariant.home in
    let back : c.list_below.new.path.items ≡ path ++ op ∷ [] = c.in_ok-list_below.ensures.home ∙ pushed in
    record {
      home = c.pop.ensures.rest ∙ popped path c.list_below.new.path.items op (vec_len c.list_below.new.path) back (c.list_below.new.path.ok.0);
      found = listed_more (histories c.args.found.now.items) path (empty_if (contains below [])) (branches_of below) (histories c.loop-i.found.items) (histories c.list_below.new.found.items) c.loop-i.i op kid c.kid-below.ensures.kid c.loop-i.invariant.found
          (c.in_ok-list_below.ensures.found ∙ ap (λ (p : List SerialOp). histories c.loop-i.found.items ++ map (λ q. p ++ q) kid) pushed);
    }
