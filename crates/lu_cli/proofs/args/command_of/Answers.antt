use Rattle.std.proofs.Common.{sym, subst}
use Rattle.clap.specs.Words.{App, new_app}
use Rattle.lu_cli.specs.Args as spec
use Rattle.lu_cli.specs.Args.{IsApp}
use Rattle.lu_cli.specs.Table.{option_said}
use Rattle.lu_cli.proofs.Tables.{fold_more}
use Rattle.lu_cli.proofs.args.command_of.Goals as goal

pub loop-option-preserved : goal.loop-option-preserved
loop-option-preserved c =
    let name = c.args.row.now.name.now in
    let more = fold_more (spec.with_option name) option_said (new_app name) c.args.options.now c.loop-option.option-index _ c.loop-option-test.true in
    subst (λ (a : App). IsApp a c.in_ok-command.command) (sym more) (c.in_ok-command.ensures _ c.loop-option.invariant)
