use Rattle.std.proofs.Common.{◌≡◌, Some, slice_get, sym, subst}
use Rattle.std.proofs.lemmas.Option.{same_Some}
use Rattle.std.proofs.lemmas.Result.{IfOk-weaker}
use Rattle.lu_client.proofs.OneCalls.{within_some}
use Rattle.lu_always.specs.Rows.{IsCoveredBy, IsMonitorOf, stored_in}
use Rattle.lu_always.specs.Stored.{Stores, StoresBeside, position_in}
use Rattle.lu_always.proofs.Rowed.{are_more, are_stay, its_monitor, monitor_stays, stores, whole_from}
use Rattle.lu_always.proofs.nodes.Nodes.store_beside.Goals as goal

pub invariant_of-self : goal.invariant_of-self
invariant_of-self c =
    are_stay c.self.inside.parts c.row_at.new.self c.in_err-row.ensures.grows c.self.inside.rows.entries c.self.invariant

pub invariant_of-self-2 : goal.invariant_of-self-2
invariant_of-self-2 c =
    let old = c.self.inside.parts in
    let new = c.row_at.new.self in
    let entries = c.self.inside.rows.entries in
    let row = c.in_ok-row.row in
    let kept = within_some c.args.self.now c.args.beside c.requires in
    let its = its_monitor old entries c.self.invariant c.args.beside c.row_at-likely.result c.row_at-likely.ensures kept.0 (subst (λ xs. slice_get xs c.args.beside ≡ Some kept.0) (sym c.self.view_is) kept.1) in
    let stays = monitor_stays old new c.in_ok-row.ensures.grows c.row_at-likely.result.monitor kept.0.monitor its in
    let monitor = subst (λ n. IsMonitorOf new n kept.0.monitor) (sym c.in_ok-row.ensures.monitor) stays in
    are_more new row c.args.arrival entries c.store_row.new.rows.entries
    (whole_from new row (position_in c.args.machine.now) kept.0.monitor c.in_ok-row.ensures.position monitor)
    (are_stay old new c.in_ok-row.ensures.grows entries c.self.invariant) c.store_row.ensures.only

pub returns : goal.returns
returns c =
    let s = c.args.machine.now in
    let old = c.self.inside.parts in
    let new = c.row_at.new.self in
    let entries = c.self.inside.rows.entries in
    let row = c.in_ok-row.row in
    let after = stored_in new c.store_row.new.rows.entries in
    IfOk-weaker c.store_row.result (IsCoveredBy new c.store_row.new.rows.entries row) (StoresBeside s c.args.beside c.args.arrival c.args.self.now after)
    (λ index there monitor has.
    let its = its_monitor old entries c.self.invariant c.args.beside c.row_at-likely.result c.row_at-likely.ensures has.0 (subst (λ xs. slice_get xs c.args.beside ≡ Some has.0) (sym c.self.view_is) has.1) in
    let stays = monitor_stays old new c.in_ok-row.ensures.grows c.row_at-likely.result.monitor has.0.monitor its in
    let is = subst (IsMonitorOf new row.monitor) has.2 (subst (λ n. IsMonitorOf new n has.0.monitor) (sym c.in_ok-row.ensures.monitor) stays) in
    subst (λ before. Stores s monitor c.args.arrival before after index) c.self.view_is
    (stores old new s monitor c.args.arrival entries c.store_row.new.rows.entries row index c.in_ok-row.ensures.grows c.self.invariant c.in_ok-row.ensures.position is c.store_row.ensures.only there))
    c.store_row.ensures.there
