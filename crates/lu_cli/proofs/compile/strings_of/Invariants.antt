use Rattle.std.proofs.Common.{◌≡◌, ◌++◌, drop}
use Rattle.lu_text.specs.Lines.{texts}
use Rattle.lu_cli.proofs.compile.strings_of.Given as goal

abbrev pub invariant-loop-part : goal.invariant-loop-part
invariant-loop-part l = texts l.strings.items ++ drop l.part-index (texts l.parts) ≡ texts l.parts
