use Rattle.std.proofs.Common.{◌≡◌, ◌++◌}
use Rattle.std.specs.Prelude.{string_bytes}
use Rattle.lu_picture.specs.Shapes.{next_lines}
use Rattle.lu_picture.proofs.waiting.write_next_lines.Given as goal

abbrev pub invariant-loop-pick : goal.invariant-loop-pick
invariant-loop-pick l = string_bytes l.text ≡ string_bytes l.initial.text ++ next_lines l.how l.machine l.t l.pick
