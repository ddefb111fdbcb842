use Rattle.std.proofs.Common.{ap, sym, ◌∙◌}
use Rattle.lu_machine.specs.States.{is_open}
use Rattle.lu_history.specs.Standing.{Standing}
use Rattle.lu_graph.proofs.Standings.{standing_at, standing_past}
use Rattle.lu_graph.proofs.standing.is_waiting.Goals as goal

pub returns-in-None : goal.returns-in-None
returns-in-None c = sym (ap (λ (x : Standing). x.1) (standing_past c.args.machine.now c.args.thread c.in-None.ensures.value))

pub returns-in-Idle : goal.returns-in-Idle
returns-in-Idle c = sym (ap (λ (x : Standing). x.1) (standing_at c.args.machine.now c.args.thread c.in-Some.standing.now c.in-Some.ensures.value) ∙ ap is_open c.in-Idle.is)

pub returns-in-Open : goal.returns-in-Open
returns-in-Open c = sym (ap (λ (x : Standing). x.1) (standing_at c.args.machine.now c.args.thread c.in-Some.standing.now c.in-Some.ensures.value) ∙ ap is_open c.in-Open.is)
