use Rattle.std.proofs.Common.{◌∙◌, sym, subst}
use Rattle.std.specs.Prelude.{All}
use Rattle.lu_machine.specs.Layout.{IsStanding, StandsIn}
use Rattle.lu_graph.specs.Rows.{AreLive}
use Rattle.lu_always.proofs.Cleared.{cleared_so, cleared_stands}
use Rattle.lu_always.specs.Stored.{StandsWhereItCan}
use Rattle.lu_always.proofs.clearing.clear_dead.Goals as goal

pub stand_with-requires : goal.stand_with-requires
stand_with-requires c =
    let m = c.args.machine.now in
    cleared_stands c.args.dead.now m c.in_ok-here.here c.deref.result.now c.deref-2.result.now c.deref-3.result.now c.in_ok-here.ensures.stands c.in_ok-here.ensures.here
    (c.deref.ensures.value ∙ (c.in_ok-cells.ensures.items ∙ c.cells.ensures))
    (c.deref-2.ensures.value ∙ (c.in_ok-locks.ensures.items ∙ c.locks.ensures))
    (subst (AreLive c.args.dead.now m.threads) (sym c.deref-3.ensures.value) c.in_ok-threads.ensures.live)
    (subst (All IsStanding) (sym c.deref-3.ensures.value) c.in_ok-threads.ensures.stand)
    (subst (All (StandsIn m.component)) (sym c.deref-3.ensures.value) c.in_ok-threads.ensures.in_code)

pub returns-clause-cleared : goal.returns-clause-cleared
returns-clause-cleared c =
    let m = c.args.machine.now in
    cleared_so c.args.dead.now m c.stand_with.new.self c.deref.result.now c.deref-2.result.now c.deref-3.result.now
    (c.deref.ensures.value ∙ (c.in_ok-cells.ensures.items ∙ c.cells.ensures))
    (c.deref-2.ensures.value ∙ (c.in_ok-locks.ensures.items ∙ c.locks.ensures))
    (subst (AreLive c.args.dead.now m.threads) (sym c.deref-3.ensures.value) c.in_ok-threads.ensures.live)
    c.stand_with.ensures

pub returns-clause-stands : goal.returns-clause-stands
returns-clause-stands c =
    let m = c.args.machine.now in
    let can = cleared_stands c.args.dead.now m c.in_ok-here.here c.deref.result.now c.deref-2.result.now c.deref-3.result.now c.in_ok-here.ensures.stands c.in_ok-here.ensures.here
    (c.deref.ensures.value ∙ (c.in_ok-cells.ensures.items ∙ c.cells.ensures))
    (c.deref-2.ensures.value ∙ (c.in_ok-locks.ensures.items ∙ c.locks.ensures))
    (subst (AreLive c.args.dead.now m.threads) (sym c.deref-3.ensures.value) c.in_ok-threads.ensures.live)
    (subst (All IsStanding) (sym c.deref-3.ensures.value) c.in_ok-threads.ensures.stand)
    (subst (All (StandsIn m.component)) (sym c.deref-3.ensures.value) c.in_ok-threads.ensures.in_code) in
    subst StandsWhereItCan (sym c.stand_with.ensures) can
