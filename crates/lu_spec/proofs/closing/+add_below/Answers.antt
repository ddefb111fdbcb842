use Rattle.std.proofs.Common.{rules, ◌≡◌, List, [], ◌∷◌, ◌++◌, refl, sym, ap, subst, ◌∙◌, arith, vec_len}
use Rattle.lu_machine.proofs.Orders.{popped}
use Rattle.lu_history.specs.declared.serial.SerialOp.{SerialOp}
use Rattle.lu_history.specs.Serial.{IsSerial}
use Rattle.lu_trie.specs.Members.{Adds}
use Rattle.lu_trie.proofs.Trees.{branch_lighter}
use Rattle.lu_spec.specs.Beginnings.{AddsBelow, Has}
use Rattle.lu_spec.proofs.Below.{here_added, kid_added, all_added, kid_path, kid_serial, kid_outcomes, all_outcomes}
use Rattle.lu_spec.proofs.closing.+add_below.Goals as goal

pub insert-requires : goal.insert-requires
insert-requires g t c = subst IsSerial (sym c.deref.ensures.value) c.requires.path

pub loop-i-init : goal.loop-i-init
loop-i-init g t c = record {
  path = refl;
  added = here_added c.args.set.now c.insert.new.self c.args.path.now.items (subst (λ (h : List SerialOp). Adds c.args.set.now c.insert.new.self h) c.deref.ensures.value c.in_ok-insert.ensures.ok);
  outcomes = λ q has. absurd cc;
}

pub add_below-requires : goal.add_below-requires
add_below-requires g t c κs w =
    let law = g.met.T.SerialTree.branching c.args.tree.now c.args.place c.requires.place in
    let below = g.T.SerialTree.below c.args.tree.now c.args.place in
    let path = c.args.path.now.items in
    let op = c.kid-below.result.0 in
    let kid = g.T.SerialTree.below c.args.tree.now c.kid-below.result.1 in
    let pushed : c.push.new.self.items ≡ path ++ op ∷ [] = c.in_ok-push.ensures.items ∙ ap (λ (p : List SerialOp). p ++ op ∷ []) c.loop-i.invariant.path in
    let serial = subst IsSerial (sym pushed) (kid_path below path c.loop-i.i op kid law c.kid-below.ensures.kid c.requires.serial) in
    let later = λ (q : List SerialOp) (has : Has kid q). subst (λ (p : List SerialOp). IsSerial (p ++ q)) (sym pushed) (kid_serial below path c.loop-i.i op kid law c.kid-below.ensures.kid c.requires.serial q has) in
    (let lt = branch_lighter _ law c.loop-i.i _ c.kid-below.ensures.kid in search (rules, lt), (w.0, (w.1.0, (w.1.1, (c.kid-below.ensures.place, (serial, later))))))

pub loop-i-preserved : goal.loop-i-preserved
loop-i-preserved g t c =
    let law = g.met.T.SerialTree.branching c.args.tree.now c.args.place c.requires.place in
    let below = g.T.SerialTree.below c.args.tree.now c.args.place in
    let path = c.args.path.now.items in
    let op = c.kid-below.result.0 in
    let kid = g.T.SerialTree.below c.args.tree.now c.kid-below.result.1 in
    let pushed : c.push.new.self.items ≡ path ++ op ∷ [] = c.in_ok-push.ensures.items ∙ ap (λ (p : List SerialOp). p ++ op ∷ []) c.loop-i.invariant.path in
    let back : c.add_below.new.path.items ≡ path ++ op ∷ [] = c.in_ok-add_below.ensures.path ∙ pushed in
    let added = subst (λ (p : List SerialOp). AddsBelow c.loop-i.set c.add_below.new.set p kid) pushed c.in_ok-add_below.ensures.adds in
    record {
      path = c.pop.ensures.rest ∙ popped path c.add_below.new.path.items op (vec_len c.add_below.new.path) back (c.add_below.new.path.ok.0);
      added = kid_added c.args.set.now c.loop-i.set c.add_below.new.set path below c.loop-i.i op kid law c.kid-below.ensures.kid c.loop-i.invariant.added added;
      outcomes = kid_outcomes below c.loop-i.i op kid c.kid-below.ensures.kid (search rules) c.in_ok-add_below.ensures.outcomes c.loop-i.invariant.outcomes;
    }

pub returns-clause-adds : goal.returns-clause-adds
returns-clause-adds g t c =
    let law = g.met.T.SerialTree.branching c.args.tree.now c.args.place c.requires.place in
    all_added c.args.set.now c.loop-i.set c.args.path.now.items (g.T.SerialTree.below c.args.tree.now c.args.place) c.loop-i.i law (omega (arith, c.kid_count-i-end.ensures, c.loop-i-test.false)) c.loop-i.invariant.added

pub returns-clause-outcomes : goal.returns-clause-outcomes
returns-clause-outcomes g t c =
    let law = g.met.T.SerialTree.branching c.args.tree.now c.args.place c.requires.place in
    all_outcomes (g.T.SerialTree.below c.args.tree.now c.args.place) c.loop-i.i law (omega (arith, c.kid_count-i-end.ensures, c.loop-i-test.false)) c.loop-i.invariant.outcomes
