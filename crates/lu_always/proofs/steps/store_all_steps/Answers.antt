use Rattle.std.proofs.Common.{arith, ◌++◌, inl, inr, refl, ◌∙◌, ap, subst}
use Rattle.lu_always.specs.Exits.{AreExitsOf}
use Rattle.lu_always.specs.Searching.{Grows}
use Rattle.lu_always.proofs.Exiting.{between_all, between_next, between_none}
use Rattle.lu_always.proofs.Keeping.{monitor_more}
use Rattle.lu_always.proofs.StepsMade.{threads_all, threads_next, threads_none}
use Rattle.lu_always.proofs.steps.store_all_steps.Goals as goal

pub loop-thread-init : goal.loop-thread-init
loop-thread-init c = record {
  steps = threads_none c.args.given.dead.now c.args.given.rounds c.args.given.table.now c.args.machine.now c.args.monitor.now c.args.at c.turns_at-turns.result.first c.args.all.now;
  from = omega arith;
  within = inr refl;
  exits = between_none c.args.given.dead.now c.args.given.rounds c.args.machine.now c.turns_at-turns.result.first c.args.all.now c.new-exits.result.items c.new-exits.ensures.items;
}

pub loop-thread-preserved : goal.loop-thread-preserved
loop-thread-preserved c =
    let s = c.args.machine.now in
    let far = c.loop-thread.invariant.steps in
    let first = c.turns_at-turns.result.first in
    let old = c.loop-thread.all in
    let new = c.store_steps.new.all in
    let thread = c.loop-thread.thread in
    let grows : Grows s old new = subst (λ x. Grows x old new) far.machine_is c.in_ok-more.ensures.grows in
    let its : AreExitsOf thread c.args.given.dead.now c.args.given.rounds new c.in_ok-more.more.items s = subst (λ x. AreExitsOf thread c.args.given.dead.now c.args.given.rounds new c.in_ok-more.more.items x) far.machine_is c.in_ok-more.ensures.exits in
    record {
      steps =
          threads_next c.args.given.dead.now c.args.given.rounds c.args.given.table.now s c.args.monitor.now c.args.at first c.args.all.now
          c.loop-thread.machine c.store_steps.new.machine old new thread far
          c.in_ok-more.ensures.home c.in_ok-more.ensures.grows c.in_ok-more.ensures.steps c.in_ok-more.ensures.new;
      from = (let from = c.loop-thread.invariant.from in omega (arith, from));
      within = inl (omega (arith, c.loop-thread-test.true));
      exits = between_next c.args.given.dead.now c.args.given.rounds s first old new c.loop-thread.exits.items c.in_ok-more.more.items c.extend_from_slice.new.self.items thread grows c.loop-thread.invariant.from (c.in_ok-extend_from_slice.ensures.items ∙ ap (λ ys. c.loop-thread.exits.items ++ ys) c.deref.ensures.value) c.loop-thread.invariant.exits its;
    }

pub returns-clause-exits : goal.returns-clause-exits
returns-clause-exits c =
    between_all c.args.given.dead.now c.args.given.rounds c.args.machine.now c.turns_at-turns.result.first c.loop-thread.all c.loop-thread.exits.items c.turns_at-turns.result.end c.loop-thread.thread c.turns_at-turns.ensures
    (omega (arith, c.loop-thread-test.false)) c.loop-thread.invariant.within c.loop-thread.invariant.exits

pub returns-clause-steps : goal.returns-clause-steps
returns-clause-steps c =
    threads_all c.args.given.dead.now c.args.given.rounds c.args.given.table.now c.args.machine.now c.args.monitor.now c.args.at c.turns_at-turns.result.first c.args.all.now c.loop-thread.machine c.loop-thread.all c.turns_at-turns.result.end c.loop-thread.thread c.turns_at-turns.ensures
    (omega (arith, c.loop-thread-test.false)) c.loop-thread.invariant.steps

pub returns-clause-home : goal.returns-clause-home
returns-clause-home c = c.loop-thread.invariant.steps.machine_is

pub returns-clause-grows : goal.returns-clause-grows
returns-clause-grows c = c.loop-thread.invariant.steps.grows

pub returns-clause-new : goal.returns-clause-new
returns-clause-new c = c.loop-thread.invariant.steps.adds

pub store_steps-requires-clause-at : goal.store_steps-requires-clause-at
store_steps-requires-clause-at c = monitor_more c.args.machine.now c.args.all.now c.loop-thread.all c.loop-thread.invariant.steps.grows c.args.at c.args.monitor.now c.requires.at
