use Rattle.std.proofs.Common.{arith, ◌≤◌, refl, subst, sym}
use Rattle.lu_test.specs.declared.schedule.Move.{Move}
use Rattle.lu_machine.specs.Steps.{picks_of}
use Rattle.lu_always.specs.declared.stored.Arrival.{Arrival}
use Rattle.lu_always.specs.Exits.{AreReached, MovesTo}
use Rattle.lu_always.specs.Searching.{Grows}
use Rattle.lu_always.proofs.Exiting.{Below, picks_all, picks_next, picks_none}
use Rattle.lu_always.proofs.Keeping.{monitor_more}
use Rattle.lu_always.proofs.StepsMade.{moves_all, moves_next, moves_none}
use Rattle.lu_always.proofs.steps.store_moves.Goals as goal

pub loop-pick-init : goal.loop-pick-init
loop-pick-init c = (
  moves_none c.args.given.dead.now c.args.given.rounds c.args.given.table.now c.args.machine.now c.args.monitor.now c.args.origin c.args.thread c.args.all.now,
  subst (λ x. AreReached (Below c.args.thread 0) c.args.given.dead.now c.args.given.rounds c.args.all.now x c.args.machine.now) (sym c.new-indexes.ensures.items)
      (picks_none c.args.given.dead.now c.args.given.rounds c.args.machine.now c.args.thread c.args.all.now),
)

pub loop-pick-preserved : goal.loop-pick-preserved
loop-pick-preserved c =
    let far = c.loop-pick.invariant.0 in
    let s = c.args.machine.now in
    let new = c.store_next.new.all in
    let by : Move = record { thread = c.args.thread; pick = c.loop-pick.pick } in
    let one : Arrival = record { parent = c.args.origin.index; call = c.args.origin.call; by = by } in
    let grows : Grows s c.loop-pick.all new = subst (λ x. Grows x c.loop-pick.all new) far.machine_is c.in_ok-index.ensures.grows in
    let leads : MovesTo c.args.given.dead.now c.args.given.rounds new s by c.in_ok-index.index = subst (λ x. MovesTo c.args.given.dead.now c.args.given.rounds new x by c.in_ok-index.index) far.machine_is c.in_ok-index.ensures.leads in (
      moves_next c.args.given.dead.now c.args.given.rounds c.args.given.table.now s c.args.monitor.now c.args.origin c.args.thread c.args.all.now
          c.loop-pick.machine c.store_next.new.machine c.loop-pick.all new c.loop-pick.pick one refl refl refl far
          c.in_ok-index.ensures.home c.in_ok-index.ensures.grows c.in_ok-index.ensures.next c.in_ok-index.ensures.new,
      picks_next c.args.given.dead.now c.args.given.rounds s c.args.thread c.loop-pick.all new c.loop-pick.indexes.items c.push.new.self.items c.loop-pick.pick c.in_ok-index.index grows c.in_ok-push.ensures.items leads c.loop-pick.invariant.1,
    )

pub store_next-requires-clause-beside : goal.store_next-requires-clause-beside
store_next-requires-clause-beside c = λ none. monitor_more c.args.machine.now c.args.all.now c.loop-pick.all c.loop-pick.invariant.0.grows c.args.origin.index c.args.monitor.now (c.requires.beside none)

pub returns-clause-moves : goal.returns-clause-moves
returns-clause-moves c =
    let past : picks_of c.args.machine.now c.args.thread ≤ c.loop-pick.pick = omega (arith, c.picks-pick-end.ensures, c.loop-pick-test.false) in
    moves_all c.args.given.dead.now c.args.given.rounds c.args.given.table.now c.args.machine.now c.args.monitor.now c.args.origin c.args.thread c.args.all.now c.loop-pick.machine c.loop-pick.all c.loop-pick.pick past c.loop-pick.invariant.0

pub returns-clause-reached : goal.returns-clause-reached
returns-clause-reached c =
    let past : picks_of c.args.machine.now c.args.thread ≤ c.loop-pick.pick = omega (arith, c.picks-pick-end.ensures, c.loop-pick-test.false) in
    picks_all c.args.given.dead.now c.args.given.rounds c.args.machine.now c.args.thread c.loop-pick.all c.loop-pick.indexes.items c.loop-pick.pick past c.loop-pick.invariant.1
