use Rattle.std.proofs.Common.{append_assoc}
use Rattle.lu_cli.proofs.explanation.write_difference.Goals as goal

pub returns : goal.returns
returns c = simp append_assoc c.write.ensures.bytes
