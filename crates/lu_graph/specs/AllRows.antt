-- What contracts see of a table of rows.
use Rattle.std.specs.Prelude.{List}
use Rattle.lu_graph.specs.declared.row.Row.{Row}

-- the rows, each once, in the order in which they came
pub record AllRows : Type 0 where
  pub keys : List Row
