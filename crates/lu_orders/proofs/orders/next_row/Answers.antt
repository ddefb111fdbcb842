use Rattle.std.proofs.Common.{arith, ◌≡◌, ◌+◌, ◌-◌, ◌<◌, ℕ, suc, [], ◌∷◌, length, length-append, get_or, subst, sym, ◌∙◌, ap}
use Rattle.lu_machine.specs.Sums.{capped}
use Rattle.lu_orders.specs.Orders.{IsRow, orders}
use Rattle.lu_orders.proofs.OrderLaws.{row_next, row_push}
use Rattle.lu_orders.proofs.orders.next_row.Goals as goal

pub loop-b-preserved : goal.loop-b-preserved
loop-b-preserved c =
    let row = c.args.row.now in
    let b = c.loop-b.b in
    let next = c.saturating_add-number.result in
    let e : suc (b - 1) ≡ b = omega (arith, c.loop-b.invariant.some) in
    let f : b + 1 - 1 ≡ b = omega arith in
    let within : b < length row = omega arith in
    let number : (a : ℕ) → IsRow a row → next ≡ capped (orders (suc a) b) = λ a is.
    (let above : get_or row b 0 ≡ capped (orders a (suc (b - 1))) = is b within ∙ ap (λ (x : ℕ). capped (orders a x)) (sym e) in
    subst (λ (x : ℕ). next ≡ capped (orders (suc a) x)) e (row_next a (b - 1) c.loop-b.number (get_or row b 0) next (c.loop-b.invariant.last a is) above c.saturating_add-number.ensures)) in
    record {
      some = omega arith;
      many = rw c.in_ok-push-2.ensures.items (omega (arith, c.loop-b.invariant.many, length-append c.loop-b.next.items (next ∷ [])));
      last = λ a is. subst (λ (x : ℕ). next ≡ capped (orders (suc a) x)) (sym f) (number a is);
      row = λ a is. rw c.in_ok-push-2.ensures.items (row_push (suc a) c.loop-b.next.items next (c.loop-b.invariant.row a is) (number a is ∙ ap (λ (x : ℕ). capped (orders (suc a) x)) (sym c.loop-b.invariant.many)));
    }
