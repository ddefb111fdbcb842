use Rattle.std.proofs.Common.{append_assoc}
use Rattle.lu_picture.proofs.head.write_lane.Goals as goal

pub returns : goal.returns
returns c = simp append_assoc c.write.ensures.bytes
