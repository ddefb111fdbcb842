use Rattle.lu_cli.proofs.explanation.present.Goals as goal

pub returns-in-Words : goal.returns-in-Words
returns-in-Words g c = rw c.in-Words.is c.explain_by.ensures
