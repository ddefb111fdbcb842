use Rattle.std.proofs.Common.{◌∙◌, ◌++◌, List, ℕ, ap, sym}
use Rattle.std.proofs.lemmas.List.Folds.{flat_map-map}
use Rattle.lu_cli.specs.Help.{command_line, command_lines, command_rows, notes, option_line, option_rows, usage}
use Rattle.lu_cli.specs.Table.{command_said, commands_said, option_said}
use Rattle.lu_cli.proofs.help.help_of.Goals as goal

pub returns : goal.returns
returns c =
    let commands = c.args.commands.now in
    let options = c.args.options.now in
    let front : List ℕ = command_lines (commands_said commands) in
    c.in_ok-push_options.ensures
    ∙ (ap (λ (t : List ℕ). t ++ option_rows options) (c.in_ok-push_str.ensures.bytes ∙ ap (λ (t : List ℕ). t ++ notes) (c.in_ok-push_commands.ensures ∙ ap (λ (t : List ℕ). t ++ command_rows commands) c.in_ok-text.ensures.ok))
    ∙ (ap (λ (t : List ℕ). usage ++ t ++ notes ++ option_rows options) (sym (flat_map-map command_line command_said commands))
    ∙ ap (λ (t : List ℕ). usage ++ front ++ notes ++ t) (sym (flat_map-map option_line option_said options))))
