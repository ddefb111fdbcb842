use Rattle.std.proofs.Common.{append_assoc}
use Rattle.lu_picture.proofs.rows.write_in_column.Goals as goal

pub returns : goal.returns
returns c = simp append_assoc (rw c.column.ensures.value at c.write.ensures.bytes)
