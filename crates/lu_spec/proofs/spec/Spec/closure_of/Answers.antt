use Rattle.std.proofs.Common.{◌++◌, List, [], refl, sym, subst}
use Rattle.lu_history.specs.declared.serial.SerialOp.{SerialOp}
use Rattle.lu_history.specs.Serial.{IsSerial}
use Rattle.lu_spec.specs.Beginnings.{AddsBelow, Has}
use Rattle.lu_spec.specs.Specs.{AllHaveOutcomes}
use Rattle.lu_spec.proofs.Closures.{is_spec, closure_of, walked_closure}
use Rattle.lu_spec.proofs.spec.Spec.closure_of.Goals as goal

pub add_below-requires-clause-path : goal.add_below-requires-clause-path
add_below-requires-clause-path g c = subst IsSerial (sym c.new.ensures.items) tt

pub add_below-requires-clause-serial : goal.add_below-requires-clause-serial
add_below-requires-clause-serial g c = λ q has.
    let member = subst (λ (x : List (List SerialOp)). Has x q) c.root.ensures.all has in
    subst (λ (p : List SerialOp). IsSerial (p ++ q)) (sym c.new.ensures.items) (c.requires.serial q member)

pub same-closed : goal.same-closed
same-closed g c = refl

pub invariant_of-result : goal.invariant_of-result
invariant_of-result g c =
    let from_nothing = subst (λ (x : List (List SerialOp)). AddsBelow x c.add_below.new.set c.new.result.items (g.T.SerialTree.below c.args.tree.now c.root.result)) c.new-closed.ensures c.in_ok-add_below.ensures.adds in
    let at_root = subst (λ (p : List SerialOp). AddsBelow [] c.add_below.new.set p (g.T.SerialTree.below c.args.tree.now c.root.result)) c.new.ensures.items from_nothing in
    let added = subst (λ (x : List (List SerialOp)). AddsBelow [] c.add_below.new.set [] x) c.root.ensures.all at_root in
    let outcomes = subst AllHaveOutcomes c.root.ensures.all c.in_ok-add_below.ensures.outcomes in
    is_spec (g.T.SerialTree.members c.args.tree.now) c.add_below.new.set (walked_closure (g.T.SerialTree.members c.args.tree.now) c.add_below.new.set added) c.requires.deterministic c.requires.serial outcomes

pub returns-clause-closure : goal.returns-clause-closure
returns-clause-closure g c =
    let from_nothing = subst (λ (x : List (List SerialOp)). AddsBelow x c.add_below.new.set c.new.result.items (g.T.SerialTree.below c.args.tree.now c.root.result)) c.new-closed.ensures c.in_ok-add_below.ensures.adds in
    let at_root = subst (λ (p : List SerialOp). AddsBelow [] c.add_below.new.set p (g.T.SerialTree.below c.args.tree.now c.root.result)) c.new.ensures.items from_nothing in
    let added = subst (λ (x : List (List SerialOp)). AddsBelow [] c.add_below.new.set [] x) c.root.ensures.all at_root in
    walked_closure (g.T.SerialTree.members c.args.tree.now) c.add_below.new.set added

pub returns-clause-of : goal.returns-clause-of
returns-clause-of g c =
    let from_nothing = subst (λ (x : List (List SerialOp)). AddsBelow x c.add_below.new.set c.new.result.items (g.T.SerialTree.below c.args.tree.now c.root.result)) c.new-closed.ensures c.in_ok-add_below.ensures.adds in
    let at_root = subst (λ (p : List SerialOp). AddsBelow [] c.add_below.new.set p (g.T.SerialTree.below c.args.tree.now c.root.result)) c.new.ensures.items from_nothing in
    let added = subst (λ (x : List (List SerialOp)). AddsBelow [] c.add_below.new.set [] x) c.root.ensures.all at_root in
    closure_of (g.T.SerialTree.members c.args.tree.now) c.add_below.new.set (walked_closure (g.T.SerialTree.members c.args.tree.now) c.add_below.new.set added) c.args.matrix.now c.requires.of
