use Rattle.std.proofs.Common.{rules, ◌≡◌, ℕ, ◌<◌, ◌≤◌, ◌++◌, ◌∷◌, ◌∙◌, List, [], length, vec_len, refl, ap, subst}
use Rattle.lu_machine.proofs.Orders.{popped}
use Rattle.lu_history.specs.declared.serial.SerialOp.{SerialOp}
use Rattle.lu_trie.specs.Branches.{branches_of}
use Rattle.lu_trie.proofs.Trees.{branch_lighter}
use Rattle.lu_lint.specs.Runs.{with_set}
use Rattle.lu_lint.proofs.Shown.{all_kids, first_kid, here, kid_more, not_here}
use Rattle.lu_lint.proofs.serial_runs.+with_below.Goals as goal
use Rattle.lu_lint.proofs.serial_runs.+with_below.Goals.{then-ends+in_ok-found, else-ends}

pub with_below-requires : goal.with_below-requires
with_below-requires g t c κs within =
    let law = g.met.T.SerialTree.branching c.args.tree.now c.args.place c.requires in
    (let lt = branch_lighter _ law c.loop-i.i _ c.kid-below.ensures.kid in search (rules, lt), search (rules, within, c.kid-below.ensures.place))

pub loop-i-preserved : goal.loop-i-preserved
loop-i-preserved g t c =
    let below = g.T.SerialTree.below c.args.tree.now c.args.place in
    let path = c.args.path.now.items in
    let op = c.kid-below.result.0 in
    let kid = g.T.SerialTree.below c.args.tree.now c.kid-below.result.1 in
    let pushed : c.push.new.self.items ≡ path ++ op ∷ [] = c.in_ok-push.ensures.items ∙ ap (λ (p : List SerialOp). p ++ op ∷ []) c.loop-i.invariant.path in
    let back : c.with_below.new.path.items ≡ path ++ op ∷ [] = c.in_ok-found-2.ensures.path ∙ pushed in
    record {
      path = c.pop.ensures.rest ∙ popped path c.with_below.new.path.items op (vec_len c.with_below.new.path) back (c.with_below.new.path.ok.0);
      hints = kid_more c.args.found.items c.loop-i.found.items c.in_ok-found-2.found.items path below c.loop-i.i op kid c.kid-below.ensures.kid c.loop-i.invariant.hints (c.in_ok-found-2.ensures.hints ∙ ap (λ (p : List SerialOp). with_set c.loop-i.found.items p kid) pushed);
    }

pub loop-i-init : goal.loop-i-init
loop-i-init g t c =
    let found = c.args.found.items in
    let path = c.args.path.now.items in
    let below = g.T.SerialTree.below c.args.tree.now c.args.place in
    record {
      path = refl;
      hints = elim c.if-ends.branch [
        | then-ends+in_ok-found w ↦ first_kid found _ path w.deref.result.now below c.ends.result w.deref.ensures.value c.ends.ensures (here found _ w.deref.result.now c.ends.result w.if-ends.true (rw w.found-is w.in_ok-found.ensures))
        | else-ends w ↦ first_kid found _ path path below c.ends.result refl c.ends.ensures (rw w.found-is (not_here found path c.ends.result w.if-ends.false))
      ];
    }

pub kid-below-requires : goal.kid-below-requires
kid-below-requires g t c =
    let count : c.kid_count-i-end.result ≡ length (branches_of (g.T.SerialTree.below c.args.tree.now c.args.place)) = c.kid_count-i-end.ensures in
    record { place = c.requires; in_range = subst (λ (n : ℕ). c.loop-i.i < n) count c.loop-i-test.true }

pub returns : goal.returns
returns g t c =
    let hs = g.T.SerialTree.below c.args.tree.now c.args.place in
    let count : c.kid_count-i-end.result ≡ length (branches_of hs) = c.kid_count-i-end.ensures in
    let past = subst (λ (n : ℕ). n ≤ c.loop-i.i) count c.loop-i-test.false in
    record {
      hints = all_kids c.args.found.items c.loop-i.found.items c.args.path.now.items hs c.loop-i.i (g.met.T.SerialTree.branching c.args.tree.now c.args.place c.requires) past c.loop-i.invariant.hints;
      path = c.loop-i.invariant.path;
    }
