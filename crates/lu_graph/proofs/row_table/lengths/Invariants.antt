use Rattle.std.proofs.Common.{◌≡◌, ℕ, ◌<◌, length}
use Rattle.std.specs.Prelude.{slice_index}
use Rattle.lu_graph.specs.InTables.{rows_in, rows_of}
use Rattle.lu_graph.proofs.row_table.lengths.Given as goal

abbrev pub invariant-loop-number : goal.invariant-loop-number
invariant-loop-number l = record {
  four : length l.counts ≡ 4;
  lengths : (n : ℕ) → n < l.number → slice_index l.counts n ≡ length (rows_of (rows_in l.tables) n);
}
