use Rattle.std.proofs.lemmas.Option.{slice_get_within}
use Rattle.std.proofs.lemmas.Result.{IfOk-weaker}
use Rattle.std.proofs.Common.{Some}
use Rattle.lu_always.specs.Searching.{AddsOnly, Grows, IsCoveredAt, node_at}
use Rattle.lu_always.specs.Stored.{StoresBeside}
use Rattle.lu_always.proofs.Keeping.{stores_covered, stores_grows, stores_only}
use Rattle.lu_always.proofs.searching.store_same.Goals as goal

pub store_beside-requires : goal.store_beside-requires
store_beside-requires c =
    let has = c.requires.beside c.in-None.is in
    slice_get_within c.args.all.now c.args.arrival.parent has.0 has.1

pub returns-in-None-clause-grows : goal.returns-in-None-clause-grows
returns-in-None-clause-grows c =
    let s = c.args.machine.now in
    let old = c.args.all.now in
    let new = c.store_beside.new.self in
    let monitor = c.args.monitor.now in
    let has = c.requires.beside c.in-None.is in
    IfOk-weaker c.store_beside.result (StoresBeside s c.args.arrival.parent (Some c.args.arrival) old new) (λ _. Grows s old new)
    (λ index beside. stores_grows s monitor (Some c.args.arrival) old new index c.requires.stands (beside monitor has))
    c.store_beside.ensures

pub returns-in-None-clause-there : goal.returns-in-None-clause-there
returns-in-None-clause-there c =
    let s = c.args.machine.now in
    let old = c.args.all.now in
    let new = c.store_beside.new.self in
    let monitor = c.args.monitor.now in
    let has = c.requires.beside c.in-None.is in
    IfOk-weaker c.store_beside.result (StoresBeside s c.args.arrival.parent (Some c.args.arrival) old new) (λ index. IsCoveredAt new index (node_at s monitor))
    (λ index beside. stores_covered s monitor (Some c.args.arrival) old new index (beside monitor has))
    c.store_beside.ensures

pub returns-in-None-clause-only : goal.returns-in-None-clause-only
returns-in-None-clause-only c =
    let s = c.args.machine.now in
    let old = c.args.all.now in
    let new = c.store_beside.new.self in
    let monitor = c.args.monitor.now in
    let has = c.requires.beside c.in-None.is in
    IfOk-weaker c.store_beside.result (StoresBeside s c.args.arrival.parent (Some c.args.arrival) old new) (λ _. AddsOnly s monitor (Some c.args.arrival) old new)
    (λ index beside. stores_only s monitor (Some c.args.arrival) old new index (beside monitor has))
    c.store_beside.ensures
