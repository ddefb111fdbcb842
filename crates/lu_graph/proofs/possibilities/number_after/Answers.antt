use Rattle.std.proofs.lemmas.Result.{IfOk-weaker}
use Rattle.std.proofs.Common.{subst}
use Rattle.lu_graph.specs.Possibilities.{NumbersAfter, NumbersStay, TellsReturn}
use Rattle.lu_graph.proofs.Recalled.{numbers_return, numbers_same}
use Rattle.lu_graph.proofs.possibilities.number_after.Goals as goal

pub returns-in-None : goal.returns-in-None
returns-in-None c =
    let s = c.args.machine.now in
    numbers_same c.args.members.now s c.args.event c.args.known.now c.args.was (subst (TellsReturn s c.args.was c.args.event) c.in-None.is c.return_at.ensures)

pub returns-in-Some : goal.returns-in-Some
returns-in-Some c =
    let members = c.args.members.now in
    let s = c.args.machine.now in
    let at = c.in-Some.at in
    let old = c.args.known.now in
    let new = c.number_of_return.new.known in
    IfOk-weaker c.number_of_return.result (NumbersStay members at old new) (NumbersAfter members s c.args.event c.args.was old new)
    (λ n stay. numbers_return members s c.args.event at c.args.was old new n (subst (TellsReturn s c.args.was c.args.event) c.in-Some.is c.return_at.ensures) stay)
    c.number_of_return.ensures
