use Rattle.lu_cli.proofs.Tables.{writes_names}
use Rattle.lu_cli.proofs.help.push_names.Goals as goal

pub returns-in_ok-push_str-in-Some : goal.returns-in_ok-push_str-in-Some
returns-in_ok-push_str-in-Some c =
    writes_names _ c.args.text.now c.push_str.new.self c.push_others.new.text c.args.names.now c.in-Some.others.now c.in-Some.first.now c.in-Some.ensures.cases.0 c.in_ok-push_str-in-Some.ensures.bytes c.push_others.ensures
