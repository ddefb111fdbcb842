use Rattle.std.proofs.Common.{arith, ◌≡◌, ◌<◌, length, sym, ◌∙◌, ap, subst}
use Rattle.std.proofs.lemmas.Bool.Decides.{nat_tests}
use Rattle.lu_history.specs.declared.serial.SerialOp.{SerialOp}
use Rattle.lu_history.specs.declared.serial.SerialOutcome.TheVariants.{Ret}
use Rattle.lu_witness.specs.Witnesses.{entries}
use Rattle.lu_tree.proofs.OrderSets.{ServeBelow, orders_of_all, orders_of_none, serve_more}
use Rattle.lu_tree.proofs.every_order.+has_every_order.Goals.{then-not-has_thread+in-Some+in-Ok+else-not-has_every_order, else-not-has_thread}
use Rattle.lu_tree.proofs.every_order.+has_every_order.Goals as goal

pub returns-then-is_empty : goal.returns-then-is_empty
returns-then-is_empty g t c = λ yes.
    (let none : length c.args.ops.now ≡ 0 = grind (arith, nat_tests, c.if-is_empty.true, c.is_empty.ensures) in
    orders_of_none (g.T.SerialTree.below c.args.tree.now c.args.place) c.args.ops.now none (sym c.ends.ensures ∙ yes))

pub loop-i-preserved : goal.loop-i-preserved
loop-i-preserved g t c =
    let hs = g.T.SerialTree.below c.args.tree.now c.args.place in
    let d : SerialOp = record { thread = 0; outcome = Ret 0 } in
    serve_more hs c.args.ops.now c.loop-i.i d c.loop-i-test.true c.loop-i.invariant (λ first.
    (elim c.if-not-has_thread.branch [
      | then-not-has_thread+in-Some+in-Ok+else-not-has_every_order w ↦ λ q same.
          w.in-Some.ensures.after q (w.has_every_order.ensures w.if-not-has_every_order.false q (λ u. same u ∙ ap (entries u) (sym (w.deref.ensures.value ∙ w.in-Ok.ensures))))
      | else-not-has_thread w ↦ absurd (c.has_thread.ensures w.if-not-has_thread.false first)
    ]))

pub returns : goal.returns
returns g t c = λ yes.
    (let hs = g.T.SerialTree.below c.args.tree.now c.args.place in
    let some : 0 < length c.args.ops.now = grind (arith, nat_tests, c.if-is_empty.false, c.is_empty.ensures) in
    let last : c.loop-i.i ≡ length c.args.ops.now = omega (arith, c.loop-i-test.false, c.loop-i.auto.i-end) in
    orders_of_all hs c.args.ops.now some (subst (ServeBelow hs c.args.ops.now) last c.loop-i.invariant))
