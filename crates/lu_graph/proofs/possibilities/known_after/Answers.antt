use Rattle.std.proofs.Common.{subst, ◌∙◌}
use Rattle.lu_graph.specs.Possibilities.{TellsReturn}
use Rattle.lu_graph.proofs.Recalled.{numbers_same, recalled}
use Rattle.lu_graph.proofs.possibilities.known_after.Goals as goal

pub returns-in-None : goal.returns-in-None
returns-in-None c = λ members.
    (let s = c.args.machine.now in
    numbers_same members s c.args.event c.args.known.now c.args.was (subst (TellsReturn s c.args.was c.args.event) c.in-None.is c.return_at.ensures))

pub returns-in-Some : goal.returns-in-Some
returns-in-Some c =
    let s = c.args.machine.now in
    recalled s c.args.event c.in-Some.at c.args.was c.args.known.now c.copied.result (subst (TellsReturn s c.args.was c.args.event) c.in-Some.is c.return_at.ensures) (c.copied.ensures ∙ c.get.ensures.value)
