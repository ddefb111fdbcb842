use Rattle.std.proofs.Common.{arith, sym, ◌∙◌, subst}
use Rattle.lu_graph.specs.Growing.{TakeTurns}
use Rattle.lu_graph.proofs.TakenTurns.{none_more, turns_all, turns_one}
use Rattle.lu_graph.proofs.growing.turns_at.Goals as goal

pub returns-then-is_aside_at : goal.returns-then-is_aside_at
returns-then-is_aside_at c = turns_one c.args.machine.now c.args.guards.now c.requires c.loop-thread.thread (sym c.is_aside_at.ensures ∙ c.if-is_aside_at.true) c.loop-thread.invariant

pub loop-thread-preserved : goal.loop-thread-preserved
loop-thread-preserved c = none_more c.args.machine.now c.args.guards.now c.loop-thread.thread c.loop-thread.invariant (sym c.is_aside_at.ensures ∙ c.if-is_aside_at.false)

pub returns : goal.returns
returns c =
    subst (TakeTurns c.args.machine.now 0) (sym c.threads.ensures.value)
    (turns_all c.args.machine.now c.args.guards.now c.requires (λ u lt. c.loop-thread.invariant u (let past = c.loop-thread-test.false in let many = c.threads-thread-end.ensures.value in omega (arith, lt, past, many))))
