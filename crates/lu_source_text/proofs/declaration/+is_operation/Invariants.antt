use Rattle.std.proofs.Common.{length}
use Rattle.lu_source_text.proofs.declaration.+is_operation.Given as goal

abbrev pub decreases-is_operation : goal.decreases-is_operation
decreases-is_operation l = length l.operations.now
