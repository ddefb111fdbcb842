use Rattle.std.proofs.Common.{append_assoc}
use Rattle.lu_picture.proofs.rules.write_rule_line.Goals as goal

pub returns : goal.returns
returns c = simp append_assoc c.write.ensures.bytes
