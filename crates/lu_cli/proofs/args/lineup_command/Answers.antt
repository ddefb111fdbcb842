use Rattle.std.proofs.Common.{List, subst}
use Rattle.std.specs.Prelude.{IfOk}
use Rattle.lu_cli.specs.Args.{IsApp, table_app}
use Rattle.lu_cli.specs.Table.{TableCommand, TableOption, commands, options_said}
use Rattle.lu_cli.proofs.args.lineup_command.Goals as goal

pub returns : goal.returns
returns c =
    let said = subst (λ (rows : List TableCommand). IfOk c.program_of.result (IsApp (table_app rows (options_said c.options.result.now)))) c.commands.ensures c.program_of.ensures in
    subst (λ (rows : List TableOption). IfOk c.program_of.result (IsApp (table_app commands rows))) c.options.ensures said
