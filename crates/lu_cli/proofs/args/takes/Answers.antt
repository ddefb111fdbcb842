use Rattle.std.proofs.Common.{◌∙◌}
use Rattle.lu_cli.proofs.Tables.{named_among}
use Rattle.lu_cli.proofs.args.takes.Goals as goal

pub returns : goal.returns
returns c = c.contains.ensures.value ∙ named_among c.args.name.now c.args.row.now.commands.now
