use Rattle.std.proofs.Common.{◌≡◌, ◌++◌, string_bytes, take}
use Rattle.lu_cli.specs.Help.{option_rows}
use Rattle.lu_cli.proofs.help.push_options.Given as goal

abbrev pub invariant-loop-row : goal.invariant-loop-row
invariant-loop-row l = string_bytes l.text ≡ string_bytes l.fn.text ++ option_rows (take l.row-index l.rows)
