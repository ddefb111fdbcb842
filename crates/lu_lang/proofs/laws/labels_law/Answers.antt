use Rattle.lu_lang.proofs.Labelled.{text_agrees}
use Rattle.lu_lang.proofs.laws.labels_law.Goals as goal

pub returns : goal.returns
returns c = λ text component is. text_agrees text component is
