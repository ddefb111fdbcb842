use Rattle.std.proofs.Common.{arith, [], ◌∷◌, length, length-append, ◌<◌, All, ◌∙◌, sym, ap, subst}
use Rattle.lu_board.specs.declared.view.View.{View}
use Rattle.lu_board.specs.Views.{merged}
use Rattle.lu_board.specs.Seats.{Seat, TellsGiven, IsSeatOf, gathered}
use Rattle.lu_board.proofs.Seats.{joins, gathered-push, all-front, tells-more}
use Rattle.lu_board.proofs.shared.gather.Goals as goal

pub join_seat-requires : goal.join_seat-requires
join_seat-requires c =
    let i = c.loop-seat.invariant in
    let own = subst (All (IsSeatOf c.args.table.now.shared.table_id)) c.in-Some.ensures.items i.own in
    let mine = (all-front (IsSeatOf c.args.table.now.shared.table_id) _ _ own).1 in
    let one = c.seat.invariant.0.weight in (
      ap (λ (s : Seat). s.board) c.seat.view_is ∙ mine,
      i.table ∙ c.requires.table,
      i.slots,
      let w = c.requires.words in omega arith,
      joins _ _ _ _ _ _ (omega arith) i.weight,
    )

pub loop-seat-preserved : goal.loop-seat-preserved
loop-seat-preserved c =
    let i = c.loop-seat.invariant in
    let items = c.in-Some.ensures.items in
    let left = c.pop.new.self.items in
    let own = all-front (IsSeatOf c.args.table.now.shared.table_id) _ _ (subst (All (IsSeatOf c.args.table.now.shared.table_id)) items i.own) in
    let token = c.loop-seat.token.me.0 in
    let view = ap (λ (s : Seat). s.view) c.seat.view_is in
    let both = ap (λ m. m.0) c.join_seat.ensures.2 ∙ ap (λ v. merged v token) view in
    let told = subst (TellsGiven c.seat.inside.gave_up) view c.seat.invariant.0.given in
    record {
      table = c.join_seat.ensures.0 ∙ ap (λ (s : Seat). s.board) c.seat.view_is ∙ own.1 ∙ sym c.requires.table;
      slots = ap (λ m. m.1) c.join_seat.ensures.2 ∙ c.seat.invariant.1;
      weight = subst (λ (v : View). 0 < v.weight) (sym both) (let w = i.weight in omega arith);
      all_weight = omega (arith, i.all_weight, ap length items, length-append left (c.in-Some.seat ∷ []), ap (λ (v : View). v.weight) both, ap (λ (v : View). v.weight) view, c.seat.invariant.0.weight);
      given = subst (TellsGiven _) (sym both) (tells-more c.loop-seat.gave_up c.seat.inside.gave_up token c.in-Some.seat.view i.given told);
      own = own.0;
      all = ap (gathered left) both ∙ (sym (gathered-push left c.in-Some.seat token) ∙ (ap (λ l. gathered l token) (sym items) ∙ i.all));
    }
