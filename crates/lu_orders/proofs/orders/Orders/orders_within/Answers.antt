use Rattle.std.proofs.Common.{arith, rules, ◌≡◌, ◌-◌, ◌∙◌, drop, length, slice_set, ap}
use Rattle.std.proofs.lemmas.List.{length-set}
use Rattle.lu_orders.specs.Orders.{orders_within}
use Rattle.lu_orders.proofs.CapOrders.{numbers_first, numbers_more, zeros_of}
use Rattle.lu_orders.proofs.orders.Orders.orders_within.Goals as goal

pub loop-back-init : goal.loop-back-init
loop-back-init c =
    let row : c.start.new.row ≡ slice_set (zeros_of 257) 0 1 = c.start.ensures in
    record {
      many = ap length row ∙ length-set (zeros_of 257) 0 1;
      numbers = numbers_first 256 c.args.left c.args.caps.now c.start.new.row row;
    }

pub loop-back-preserved : goal.loop-back-preserved
loop-back-preserved c =
    let caps = c.args.caps.now in
    let b = c.loop-back.back in
    let i = c.loop-back.invariant in
    record {
      many = c.add_thread.ensures.many ∙ i.many;
      numbers = numbers_more caps b c.args.left c.add_thread.new.row (omega arith) (rw (← c.from-cap.ensures) (c.add_thread.ensures.numbers (search rules) (λ j. orders_within j (drop (length caps - b) caps)) i.numbers));
    }

pub returns-clause-number : goal.returns-clause-number
returns-clause-number c =
    let caps = c.args.caps.now in
    let whole : length caps - c.loop-back.back ≡ 0 = omega arith in
    let number = c.loop-back.invariant.numbers c.args.left (omega arith) in
    rw whole at number
