use Rattle.std.proofs.lemmas.Result.{IfOk-weaker}
use Rattle.lu_always.specs.Searching.{AddsOnly, Grows, IsCoveredAt, node_at}
use Rattle.lu_always.specs.Stored.{Stores}
use Rattle.lu_always.proofs.Keeping.{stores_covered, stores_grows, stores_only}
use Rattle.lu_always.proofs.searching.store.Goals as goal

pub returns-clause-grows : goal.returns-clause-grows
returns-clause-grows c =
    let s = c.args.machine.now in
    let old = c.args.all.now in
    let new = c.store.new.self in
    IfOk-weaker c.store.result (Stores s c.args.monitor.now c.args.arrival old new) (λ _. Grows s old new)
    (λ index stores. stores_grows s c.args.monitor.now c.args.arrival old new index c.requires stores)
    c.store.ensures

pub returns-clause-there : goal.returns-clause-there
returns-clause-there c =
    let s = c.args.machine.now in
    let old = c.args.all.now in
    let new = c.store.new.self in
    IfOk-weaker c.store.result (Stores s c.args.monitor.now c.args.arrival old new) (λ index. IsCoveredAt new index (node_at s c.args.monitor.now))
    (λ index stores. stores_covered s c.args.monitor.now c.args.arrival old new index stores)
    c.store.ensures

pub returns-clause-only : goal.returns-clause-only
returns-clause-only c =
    let s = c.args.machine.now in
    let old = c.args.all.now in
    let new = c.store.new.self in
    IfOk-weaker c.store.result (Stores s c.args.monitor.now c.args.arrival old new) (λ _. AddsOnly s c.args.monitor.now c.args.arrival old new)
    (λ index stores. stores_only s c.args.monitor.now c.args.arrival old new index stores)
    c.store.ensures
