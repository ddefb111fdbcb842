use Rattle.std.proofs.Common.{IfOk, None, Some, refl, sym, subst}
use Rattle.lu_always.specs.Searching.{StoresAfter}
use Rattle.lu_always.proofs.Keeping.{stored_after}
use Rattle.lu_always.proofs.searching.store_after.Goals as goal

pub returns-in_ok-clear_dead-in-None : goal.returns-in_ok-clear_dead-in-None
returns-in_ok-clear_dead-in-None c =
    let given = c.args.given in
    let s = c.args.machine.now in
    let cleared = c.clear_dead.new.machine in
    let old = c.args.all.now in
    let new = c.store_same.new.all in
    let monitor = c.args.monitor.now in
    subst (λ e. IfOk c.store_same.result (StoresAfter given.dead.now given.table.now s e monitor c.args.arrival cleared old new)) (sym c.in-None.is)
    (stored_after given.dead.now given.table.now s None monitor c.args.arrival cleared old new monitor refl c.in_ok-clear_dead-in-None.ensures.cleared c.store_same.result c.store_same.ensures.grows c.store_same.ensures.there c.store_same.ensures.only)

pub returns-in_ok-clear_dead-in-Some : goal.returns-in_ok-clear_dead-in-Some
returns-in_ok-clear_dead-in-Some c =
    let given = c.args.given in
    let s = c.args.machine.now in
    let cleared = c.clear_dead-in-Some.new.machine in
    let old = c.args.all.now in
    let new = c.store.new.all in
    let after = c.in_ok-after-in-Some.after in
    subst (λ e. IfOk c.store.result (StoresAfter given.dead.now given.table.now s e c.args.monitor.now c.args.arrival cleared old new)) (sym c.in-Some.is)
    (stored_after given.dead.now given.table.now s (Some c.in-Some.event) c.args.monitor.now c.args.arrival cleared old new after c.in_ok-after-in-Some.ensures c.in_ok-clear_dead-in-Some.ensures.cleared c.store.result c.store.ensures.grows c.store.ensures.there c.store.ensures.only)
