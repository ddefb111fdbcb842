use Rattle.std.proofs.Common.{◌≡◌, ◌++◌, string_bytes, take}
use Rattle.lu_cli.specs.Compile.{lent_after}
use Rattle.lu_cli.proofs.compile.push_parts.Given as goal

abbrev pub invariant-loop-part : goal.invariant-loop-part
invariant-loop-part l = string_bytes l.text ≡ string_bytes l.fn.text ++ lent_after (take l.part-index l.parts)
