use Rattle.std.proofs.Common.{List, subst}
use Rattle.lu_machine.specs.declared.event.Event.{Event}
use Rattle.lu_diagnosis.specs.Sentences.{Says}
use Rattle.lu_diagnosis.proofs.sentences.write_what_happened.Goals as goal

pub returns-in-Ok : goal.returns-in-Ok
returns-in-Ok g c =
    rw c.in-NoWitnessFor.is (subst (λ (h : List Event). Says (g.T.SerialTree.members c.args.tree.now) c.args.component.now c.args.matrix.now h c.say-in-Ok.result) c.in-Ok.ensures.kept c.say-in-Ok.ensures)
