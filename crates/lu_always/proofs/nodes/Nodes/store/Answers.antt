use Rattle.std.proofs.Common.{sym, subst}
use Rattle.std.proofs.lemmas.Result.{IfOk-weaker}
use Rattle.lu_always.specs.Rows.{IsCoveredBy, IsMonitorOf, stored_in}
use Rattle.lu_always.specs.Stored.{Stores}
use Rattle.lu_always.proofs.Rowed.{are_more, are_stay, grow_on, monitor_stays, stores, whole_from}
use Rattle.lu_always.specs.Stored.{position_in}
use Rattle.lu_always.proofs.nodes.Nodes.store.Goals as goal

pub invariant_of-self : goal.invariant_of-self
invariant_of-self c =
    are_stay c.self.inside.parts c.number_of_monitor.new.self c.in_err-number.ensures.grows c.self.inside.rows.entries c.self.invariant

pub invariant_of-self-in_err-row : goal.invariant_of-self-in_err-row
invariant_of-self-in_err-row c =
    are_stay c.self.inside.parts c.row_at.new.self (grow_on c.self.inside.parts c.number_of_monitor.new.self c.row_at.new.self c.in_ok-number.ensures.grows c.in_err-row.ensures.grows) c.self.inside.rows.entries c.self.invariant

pub invariant_of-self-2 : goal.invariant_of-self-2
invariant_of-self-2 c =
    let old = c.self.inside.parts in
    let mid = c.number_of_monitor.new.self in
    let new = c.row_at.new.self in
    let row = c.in_ok-row.row in
    let grow = grow_on old mid new c.in_ok-number.ensures.grows c.in_ok-row.ensures.grows in
    let its = monitor_stays mid new c.in_ok-row.ensures.grows c.in_ok-number.number c.args.monitor.now c.in_ok-number.ensures.number in
    let monitor = subst (λ n. IsMonitorOf new n c.args.monitor.now) (sym c.in_ok-row.ensures.monitor) its in
    are_more new row c.args.arrival c.self.inside.rows.entries c.store_row.new.rows.entries
    (whole_from new row (position_in c.args.machine.now) c.args.monitor.now c.in_ok-row.ensures.position monitor)
    (are_stay old new grow c.self.inside.rows.entries c.self.invariant) c.store_row.ensures.only

pub returns : goal.returns
returns c =
    let s = c.args.machine.now in
    let old = c.self.inside.parts in
    let mid = c.number_of_monitor.new.self in
    let new = c.row_at.new.self in
    let row = c.in_ok-row.row in
    let grow = grow_on old mid new c.in_ok-number.ensures.grows c.in_ok-row.ensures.grows in
    let its = monitor_stays mid new c.in_ok-row.ensures.grows c.in_ok-number.number c.args.monitor.now c.in_ok-number.ensures.number in
    let monitor = subst (λ n. IsMonitorOf new n c.args.monitor.now) (sym c.in_ok-row.ensures.monitor) its in
    let after = stored_in new c.store_row.new.rows.entries in
    IfOk-weaker c.store_row.result (IsCoveredBy new c.store_row.new.rows.entries row) (Stores s c.args.monitor.now c.args.arrival c.args.self.now after)
    (λ index there.
    subst (λ before. Stores s c.args.monitor.now c.args.arrival before after index) c.self.view_is
    (stores old new s c.args.monitor.now c.args.arrival c.self.inside.rows.entries c.store_row.new.rows.entries row index grow c.self.invariant c.in_ok-row.ensures.position monitor c.store_row.ensures.only there))
    c.store_row.ensures.there
