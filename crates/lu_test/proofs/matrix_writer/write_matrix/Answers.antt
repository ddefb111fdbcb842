use Rattle.std.proofs.Common.{rules}
use Rattle.std.specs.Prelude.{string_bytes}
use Rattle.lu_test.proofs.MatrixRoundTrip.{written_again}
use Rattle.lu_test.proofs.matrix_writer.write_matrix.Goals as goal

pub returns-clause-again : goal.returns-clause-again
returns-clause-again c =
    written_again c.args.component.now c.args.matrix.now c.operations-operations.ensures.sound c.as_slice-2.ensures.sound c.requires (string_bytes c.put_threads.new.text) (search rules)
