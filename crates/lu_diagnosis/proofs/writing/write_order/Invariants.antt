use Rattle.std.proofs.Common.{◌≡◌, ◌++◌}
use Rattle.std.specs.Prelude.{string_bytes}
use Rattle.lu_explain.specs.Lines.{first_lines, order_line}
use Rattle.lu_diagnosis.proofs.writing.write_order.Given as goal

abbrev pub invariant-loop-i : goal.invariant-loop-i
invariant-loop-i l = string_bytes l.text ≡ string_bytes l.initial.text ++ first_lines (order_line l.component l.matrix l.order) l.i
