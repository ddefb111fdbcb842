use Rattle.std.proofs.Common.{sym, subst}
use Rattle.clap.specs.Words.{App}
use Rattle.lu_cli.specs.Args as spec
use Rattle.lu_cli.specs.Args.{IsApp}
use Rattle.lu_cli.specs.Table.{command_said, options_said}
use Rattle.lu_cli.proofs.Tables.{fold_more}
use Rattle.lu_cli.proofs.args.program_of.Goals as goal

pub loop-row-preserved : goal.loop-row-preserved
loop-row-preserved c =
    let options = options_said c.args.options.now in
    let more = fold_more (spec.with_command options) command_said spec.program c.args.rows.now c.loop-row.row-index _ c.loop-row-test.true in
    subst (λ (a : App). IsApp a c.in_ok-program.program) (sym more) (c.in_ok-program.ensures _ c.loop-row.invariant)
