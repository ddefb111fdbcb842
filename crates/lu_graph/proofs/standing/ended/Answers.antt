use Rattle.std.proofs.Common.{ap, sym, ◌∙◌}
use Rattle.lu_history.specs.Standing.{Standing}
use Rattle.lu_graph.proofs.Standings.{standing_at, standing_past}
use Rattle.lu_graph.proofs.standing.ended.Goals as goal

pub returns-in-None : goal.returns-in-None
returns-in-None c = sym (ap (λ (x : Standing). x.0) (standing_past c.args.machine.now c.args.thread c.in-None.ensures.value))

pub returns-in-Some : goal.returns-in-Some
returns-in-Some c = c.from.ensures ∙ sym (ap (λ (x : Standing). x.0) (standing_at c.args.machine.now c.args.thread c.in-Some.standing.now c.in-Some.ensures.value))
