use Rattle.std.proofs.Common.{take}
use Rattle.lu_cli.specs.Args.{IsProgramOf}
use Rattle.lu_cli.proofs.args.program_of.Given as goal

abbrev pub invariant-loop-row : goal.invariant-loop-row
invariant-loop-row l = IsProgramOf (take l.row-index l.rows) l.options l.program
