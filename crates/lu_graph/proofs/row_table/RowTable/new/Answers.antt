use Rattle.std.proofs.Common.{[], ◌∷◌, refl}
use Rattle.lu_graph.proofs.Tabled.{none_each, none_there}
use Rattle.lu_graph.proofs.row_table.RowTable.new.Goals as goal

pub invariant_of-result : goal.invariant_of-result
invariant_of-result c = none_there (c.new.result.rows.keys ∷ c.new-2.result.rows.keys ∷ c.new-3.result.rows.keys ∷ c.new-4.result.rows.keys ∷ []) c.new-5.result.items refl
    (none_each c.new.ensures c.new-2.ensures c.new-3.ensures c.new-4.ensures) c.new-5.ensures.items
