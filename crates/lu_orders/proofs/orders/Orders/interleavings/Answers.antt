use Rattle.std.proofs.Common.{arith, ◌≡◌, ◌-◌, ◌<◌, ◌^◌, length, drop, suc, false, true}
use Rattle.lu_orders.specs.Orders.{all_moves}
use Rattle.lu_orders.proofs.OrderLaws.{moves_at, moves_from}
use Rattle.lu_orders.proofs.orders.Orders.interleavings.Goals as goal

pub returns-in_err-of-clause-answers : goal.returns-in_err-of-clause-answers
returns-in_err-of-clause-answers c = λ within.
    (let lengths = c.args.lengths.now in
    let k = length lengths - 1 - c.loop-i.i in
    let here : suc k ≡ length lengths - c.loop-i.i = omega arith in
    let behind = moves_from lengths k in
    let one = moves_at lengths k (omega arith) in
    let all : c.loop-i.all ≡ all_moves (drop (suc k) lengths) = rw here c.loop-i.invariant.all in
    let most : all_moves lengths < length c.args.self.now = within in
    let none : false ≡ true = c.in_err-of.ensures.answers (omega arith) (omega arith) in
    absurd (cc))

pub returns-in_err-all-clause-answers : goal.returns-in_err-all-clause-answers
returns-in_err-all-clause-answers c = λ within.
    (let lengths = c.args.lengths.now in
    let k = length lengths - 1 - c.loop-i.i in
    let here : suc k ≡ length lengths - c.loop-i.i = omega arith in
    let behind = moves_from lengths k in
    let one = moves_at lengths k (omega arith) in
    let all : c.loop-i.all ≡ all_moves (drop (suc k) lengths) = rw here c.loop-i.invariant.all in
    let most : all_moves lengths < length c.args.self.now = within in
    let few : length c.args.self.now < 2 ^ 64 = c.of.ensures.few in
    absurd (omega (arith, c.in_err-all.ensures)))
