use Rattle.std.proofs.Common.{arith, add-one, ◌≡◌, ◌+◌, length, [], ◌∷◌, ◌++◌, length-append, sym, ◌∙◌}
use Rattle.std.proofs.lemmas.List.Elements.{All-push}
use Rattle.lu_orders.specs.Orders.{AreRows, IsRow, IsSquare}
use Rattle.lu_orders.proofs.OrderLaws.{rows_push}
use Rattle.lu_orders.proofs.orders.Orders.new.Goals as goal

pub loop-moves-preserved : goal.loop-moves-preserved
loop-moves-preserved c =
    let rows = c.loop-moves.rows.items in
    let row = c.loop-moves.row.items in
    let pushed = rows_push 0 c.loop-moves._moves rows row c.loop-moves.invariant.rows (omega (arith, c.loop-moves.invariant.many)) c.loop-moves.invariant.row in
    let before : IsRow c.loop-moves._moves c.deref.result.now = rw c.deref.ensures.value c.loop-moves.invariant.row in
    record {
      many = rw c.in_ok-push.ensures.items (omega (arith, c.loop-moves.invariant.many, length-append rows (row ∷ [])));
      rows = rw c.in_ok-push.ensures.items pushed;
      square = rw c.in_ok-push.ensures.items (All-push (λ x. length x ≡ c.args.most + 1) rows row c.loop-moves.invariant.square c.loop-moves.invariant.wide);
      wide = omega (arith, c.in_ok-next.ensures.many, c.loop-moves.invariant.wide);
      row = rw (add-one c.loop-moves._moves) (c.in_ok-next.ensures.next c.loop-moves._moves before);
    }

pub invariant_of-result : goal.invariant_of-result
invariant_of-result c =
    let rows = c.loop-moves.rows.items in
    let row = c.loop-moves.row.items in
    let pushed : AreRows 0 c.push-2.new.self.items = rw c.in_ok-push-2.ensures.items (rows_push 0 c.loop-moves._moves rows row c.loop-moves.invariant.rows (omega (arith, c.loop-moves.invariant.many)) c.loop-moves.invariant.row) in
    let wide = All-push (λ x. length x ≡ c.args.most + 1) rows row c.loop-moves.invariant.square c.loop-moves.invariant.wide in
    let many : length (rows ++ row ∷ []) ≡ c.args.most + 1 = omega (arith, c.loop-moves.invariant.many, length-append rows (row ∷ [])) in
    let square : IsSquare (rows ++ row ∷ []) = λ a d within. wide a d within ∙ sym many in
    let square : IsSquare c.push-2.new.self.items = rw c.in_ok-push-2.ensures.items square in
    (pushed, square)
