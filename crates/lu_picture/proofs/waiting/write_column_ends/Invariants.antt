use Rattle.std.proofs.Common.{◌≡◌, ◌++◌}
use Rattle.std.specs.Prelude.{string_bytes}
use Rattle.lu_picture.specs.Shapes.{column_ends}
use Rattle.lu_picture.proofs.waiting.write_column_ends.Given as goal

abbrev pub invariant-loop-t : goal.invariant-loop-t
invariant-loop-t l = string_bytes l.text ≡ string_bytes l.initial.text ++ column_ends l.how l.edge l.machine l.t
