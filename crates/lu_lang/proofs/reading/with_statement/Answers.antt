use Rattle.lu_lang.proofs.Placing.{label_is_name}
use Rattle.lu_lang.proofs.reading.with_statement.Goals as goal

pub new-requires : goal.new-requires
new-requires c = label_is_name c.args.op c.in-Some.label.now (rw c.in-Some.is at c.requires)
