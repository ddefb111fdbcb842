use Rattle.std.proofs.Common.{take}
use Rattle.lu_cli.specs.Args.{IsCommandOf}
use Rattle.lu_cli.proofs.args.command_of.Given as goal

abbrev pub invariant-loop-option : goal.invariant-loop-option
invariant-loop-option l = IsCommandOf l.row (take l.option-index l.options) l.command
