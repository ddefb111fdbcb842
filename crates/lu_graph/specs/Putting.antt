-- Rows that are put in.
use Rattle.std.specs.Prelude.{◌≡◌, List}
use Rattle.indexmap.specs.IndexSet.{insert_all}
use Rattle.lu_graph.specs.declared.row.Row.{Row}
use Rattle.lu_graph.specs.InTables.{row_eq}

-- the rows of a table have become these, with others put in, one after the other where they are not
-- there
abbrev pub Puts : List Row → List Row → List Row → Type 0
Puts old rows new = new ≡ insert_all row_eq old rows
