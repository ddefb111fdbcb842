use Rattle.std.proofs.Common.{arith, ◌≡◌, ◌+◌, ◌<◌, ℕ, [], length, get_or, subst, ap}
use Rattle.lu_orders.specs.Orders.{IsRow}
use Rattle.lu_orders.proofs.OrderLaws.{rows_at}
use Rattle.lu_orders.proofs.orders.Orders.of.Goals as goal

pub returns-in-Some-clause-number : goal.returns-in-Some-clause-number
returns-in-Some-clause-number c =
    let read = c.in-Some.ensures.lookup in
    let within : c.args.a < length c.self.inside.rows.items = rw (c.deref.ensures.value) at read.3.0 in
    let got : c.in-Some.row.now ≡ get_or c.self.inside.rows.items c.args.a [] = rw (c.deref.ensures.value) at (read.3.1 []) in
    let row : IsRow (0 + c.args.a) (get_or c.self.inside.rows.items c.args.a []) = rows_at 0 c.args.a c.self.inside.rows.items c.self.invariant.0 within in
    let is : 0 + c.args.a ≡ c.args.a = omega arith in
    c.at.ensures.number c.args.a (rw got (subst (λ (x : ℕ). IsRow x (get_or c.self.inside.rows.items c.args.a [])) is row))

pub returns-in-Some-clause-answers : goal.returns-in-Some-clause-answers
returns-in-Some-clause-answers c = λ a_within b_within.
    (let read = c.in-Some.ensures.lookup in
    let got : c.in-Some.row.now ≡ get_or c.self.inside.rows.items c.args.a [] = rw (c.deref.ensures.value) at (read.3.1 []) in
    let rows = ap length c.self.view_is in
    let long : length (get_or c.self.inside.rows.items c.args.a []) ≡ length c.self.inside.rows.items = c.self.invariant.1 c.args.a [] (omega (arith, a_within)) in
    let wide = ap length got in
    c.at.ensures.answers (omega (arith, b_within)))
