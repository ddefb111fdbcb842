use Rattle.std.proofs.Common.{inl, refl, sym, ◌∙◌}
use Rattle.std.proofs.lemmas.Result.{IfOk-weaker}
use Rattle.lu_always.specs.Rows.{HasRow, IsCoveredBy}
use Rattle.lu_always.proofs.Rowed.{row_covers}
use Rattle.lu_always.proofs.nodes.store_row.Goals as goal
