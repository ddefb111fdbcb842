use Rattle.std.proofs.Common.{◌≡◌, IfSome}
use Rattle.std.proofs.lemmas.Option.{IfSome_then}
use Rattle.lu_machine.specs.Sums.{capped}
use Rattle.lu_orders.specs.Orders.{orders_within}
use Rattle.lu_tree.specs.Tails.{IsCutBelow}
use Rattle.lu_tree.proofs.tail.cut_below.Goals as goal

pub returns : goal.returns
returns c = λ serves.
    (let s = c.args.machine.now in
    let left = c.args.left in
    let caps = c.in_ok-caps.caps.items in
    let numbers : IfSome c.orders_within.result (λ n. n ≡ capped (orders_within left caps)) = rw c.deref.ensures.0 at c.orders_within.ensures.number in
    IfSome_then c.orders_within.result {Q = IsCutBelow s left} numbers
    (λ n is. record { caps = caps; are = c.in_ok-caps.ensures serves; number = is }))
