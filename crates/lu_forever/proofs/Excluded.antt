-- Where all unrolled matrices are linearizable, none offends.
use Rattle.lu_forever.specs.Certified.{LinearizableNeverOffends}

pub never_offends : LinearizableNeverOffends
never_offends c rounds matrix bound always some = some.offends (always some.big some.unrolled some.start some.is_start).0
