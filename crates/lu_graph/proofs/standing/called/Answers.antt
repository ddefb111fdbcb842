use Rattle.std.proofs.Common.{arith, sym, ◌∙◌, ◌<◌, subst}
use Rattle.lu_machine.specs.declared.thread.Activity.{Activity}
use Rattle.lu_machine.specs.Layout.{HasRoom}
use Rattle.lu_graph.proofs.Standings.{called_idle, called_open, called_past}
use Rattle.lu_graph.proofs.standing.called.Goals as goal

pub returns-in-None-clause-value : goal.returns-in-None-clause-value
returns-in-None-clause-value c = sym (called_past c.args.machine.now c.args.thread c.in-None.ensures.value)

pub returns-in-Idle-clause-value : goal.returns-in-Idle-clause-value
returns-in-Idle-clause-value c = c.from.ensures ∙ sym (called_idle c.args.machine.now c.args.thread c.in-Some.standing.now c.in-Some.ensures.value c.in-Idle.is)

pub overflow_add-result : goal.overflow_add-result
overflow_add-result c =
    let room : c.in-Some.standing.now.done < 8 = subst (λ (a : Activity). HasRoom c.in-Some.standing.now.done a) c.in-Open.is c.in-Some.ensures.stands in
    omega (arith, room, c.from-in-Open.ensures)

pub returns-in-Open-clause-value : goal.returns-in-Open-clause-value
returns-in-Open-clause-value c =
    let is = called_open c.args.machine.now c.args.thread c.in-Some.standing.now c.in-Open.field-0 c.in-Some.ensures.value c.in-Open.is in
    omega (arith, is, c.from-in-Open.ensures)
