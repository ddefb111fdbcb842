use Rattle.std.proofs.Common.{◌≡◌, ◌++◌, take}
use Rattle.lu_cli.specs.Compile.{lent_after}
use Rattle.lu_cli.proofs.lint.push_parts.Given as goal

abbrev pub invariant-loop-part : goal.invariant-loop-part
invariant-loop-part l = l.bundle.items ≡ l.fn.bundle.items ++ lent_after (take l.part-index l.parts)
