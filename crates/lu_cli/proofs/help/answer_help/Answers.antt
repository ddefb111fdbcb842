use Rattle.std.proofs.Common.{◌∙◌, List, ℕ, ap}
use Rattle.lu_cli.specs.Help.{help_of}
use Rattle.lu_cli.specs.Outcomes.{Answer}
use Rattle.lu_cli.specs.Table.{TableCommand, commands, options_said}
use Rattle.lu_cli.proofs.help.answer_help.Goals as goal

abbrev said : List ℕ → Answer
said text = record { text = text; status = 0 }

pub returns : goal.returns
returns c =
    let options = options_said c.options.result.now in
    ap said (c.in_ok-help_of.ensures ∙ (ap (λ (l : List TableCommand). help_of l options) c.commands.ensures ∙ ap (help_of commands) c.options.ensures))
